use Rattle.guard_runs.proofs.FrontStands.{front_law}
use Rattle.guard_runs.proofs.StopsInside.{somewhere_law}
use Rattle.guard_runs.proofs.stopped_stacks.stacks_stop_somewhere.Goals as goal

pub returns-clause-stops : goal.returns-clause-stops
returns-clause-stops c = somewhere_law

pub returns-clause-front : goal.returns-clause-front
returns-clause-front c = front_law
