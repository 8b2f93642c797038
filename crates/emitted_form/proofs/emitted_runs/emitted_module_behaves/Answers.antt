use Rattle.emitted_form.proofs.Asyncified.{asyncified_law}
use Rattle.emitted_form.proofs.emitted_runs.emitted_module_behaves.Goals as goal

pub returns : goal.returns
returns c = asyncified_law
