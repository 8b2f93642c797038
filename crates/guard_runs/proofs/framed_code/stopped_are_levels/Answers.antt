use Rattle.guard_runs.proofs.WaitingLevels as L
use Rattle.guard_runs.proofs.framed_code.stopped_are_levels.Goals as goal

pub returns : goal.returns
returns c = L.stopped_are_levels
