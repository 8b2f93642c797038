use Rattle.gen_module.proofs.GeneratedModules.{is_valid}
use Rattle.gen_module.proofs.generated_modules.generated_modules_are_valid.Goals as goal

pub returns : goal.returns
returns c = is_valid
