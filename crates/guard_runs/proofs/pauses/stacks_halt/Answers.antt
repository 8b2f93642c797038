use Rattle.guard_runs.proofs.Pausing.{halts_law}
use Rattle.guard_runs.proofs.Reaching.{reaches_law}
use Rattle.guard_runs.proofs.pauses.stacks_halt.Goals as goal

pub returns-clause-halts : goal.returns-clause-halts
returns-clause-halts c = halts_law

pub returns-clause-reach : goal.returns-clause-reach
returns-clause-reach c = reaches_law
