use Rattle.guard_runs.proofs.StoppedStacks.{stops_law, waits_law}
use Rattle.guard_runs.proofs.stopped_stacks.stacks_stop.Goals as goal

pub returns-clause-stop : goal.returns-clause-stop
returns-clause-stop c = stops_law

pub returns-clause-wait : goal.returns-clause-wait
returns-clause-wait c = waits_law
