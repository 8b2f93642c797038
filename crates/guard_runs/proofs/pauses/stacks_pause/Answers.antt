use Rattle.guard_runs.proofs.Pausing.{pauses_law}
use Rattle.guard_runs.proofs.pauses.stacks_pause.Goals as goal

pub returns : goal.returns
returns c = pauses_law
