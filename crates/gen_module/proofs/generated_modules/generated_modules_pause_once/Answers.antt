use Rattle.gen_module.proofs.GeneratedRuns.{generated_pauses_once}
use Rattle.gen_module.proofs.generated_modules.generated_modules_pause_once.Goals as goal

pub returns : goal.returns
returns c = generated_pauses_once
