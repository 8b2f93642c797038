use Rattle.gen_module.proofs.GeneratedModules.{is_small}
use Rattle.gen_module.proofs.generated_modules.generated_modules_are_small.Goals as goal

pub returns : goal.returns
returns c = is_small
