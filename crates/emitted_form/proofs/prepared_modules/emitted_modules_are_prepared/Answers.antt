use Rattle.emitted_form.proofs.Prepared.{emitted_prepared}
use Rattle.emitted_form.proofs.prepared_modules.emitted_modules_are_prepared.Goals as goal

pub returns : goal.returns
returns c = emitted_prepared
