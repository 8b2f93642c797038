use Rattle.guard_runs.proofs.AfterPause.{again_law}
use Rattle.guard_runs.proofs.stopped_stacks.stores_meet_again.Goals as goal

pub returns : goal.returns
returns c = again_law
