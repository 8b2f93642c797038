use Rattle.slim_laws.proofs.Running.{each_step, each_stretch}
use Rattle.slim_laws.proofs.step_laws.running_is_followed.Goals as goal

pub returns-clause-step : goal.returns-clause-step
returns-clause-step c = each_step

pub returns-clause-stretch : goal.returns-clause-stretch
returns-clause-stretch c = each_stretch
