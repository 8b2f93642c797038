use Rattle.run_theory.proofs.QuietBehave.{quiet_behaves}
use Rattle.run_theory.proofs.quiet_laws.quiet_modules_behave.Goals as goal

pub returns : goal.returns
returns c = quiet_behaves
