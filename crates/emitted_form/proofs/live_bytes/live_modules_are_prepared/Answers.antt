use Rattle.emitted_form.proofs.LiveLength.{prepared_law}
use Rattle.emitted_form.proofs.live_bytes.live_modules_are_prepared.Goals as goal

pub returns : goal.returns
returns c = prepared_law
