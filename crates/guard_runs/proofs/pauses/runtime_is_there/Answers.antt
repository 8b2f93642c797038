use Rattle.guard_runs.proofs.RuntimeStands.{runtime_stands}
use Rattle.guard_runs.proofs.pauses.runtime_is_there.Goals as goal

pub returns : goal.returns
returns c = runtime_stands
