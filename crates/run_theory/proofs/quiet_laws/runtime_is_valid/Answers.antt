use Rattle.run_theory.proofs.RuntimeValid.{runtime_valid}
use Rattle.run_theory.proofs.quiet_laws.runtime_is_valid.Goals as goal

pub returns : goal.returns
returns c = λ m v free. runtime_valid m v free
