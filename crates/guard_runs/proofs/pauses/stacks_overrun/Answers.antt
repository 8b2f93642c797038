use Rattle.guard_runs.proofs.Pausing.{traps_law}
use Rattle.guard_runs.proofs.pauses.stacks_overrun.Goals as goal

pub returns : goal.returns
returns c = traps_law
