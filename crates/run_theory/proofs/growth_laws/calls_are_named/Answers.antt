use Rattle.std.proofs.Common.{[]}
use Rattle.run_theory.proofs.NamedModules.{valid_named}
use Rattle.run_theory.proofs.GrownSteps.{entered_named}
use Rattle.run_theory.proofs.growth_laws.calls_are_named.Goals as goal

pub returns : goal.returns
returns c = λ m s args x f v h e. entered_named m [] [] [] [] (valid_named m v) s [] args x f h tt e
