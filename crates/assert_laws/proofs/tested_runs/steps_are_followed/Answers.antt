use Rattle.assert_laws.proofs.Running.{each_step}
use Rattle.assert_laws.proofs.tested_runs.steps_are_followed.Goals as goal

pub returns : goal.returns
returns c = each_step
