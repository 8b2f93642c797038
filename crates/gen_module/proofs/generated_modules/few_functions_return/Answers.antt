use Rattle.std.proofs.Common.{refl}
use Rattle.gen_module.specs.GeneratedRuns.{value_of_func}
use Rattle.gen_module.proofs.generated_modules.few_functions_return.Goals as goal

pub returns : goal.returns
unfolding value_of_func
returns c = record { one = refl; four = refl; seven = refl }
