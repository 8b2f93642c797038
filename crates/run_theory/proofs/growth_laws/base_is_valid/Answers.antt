use Rattle.run_theory.proofs.BaseValid.{base_valid}
use Rattle.run_theory.proofs.growth_laws.base_is_valid.Goals as goal

pub returns : goal.returns
returns c = λ m v. base_valid m v
