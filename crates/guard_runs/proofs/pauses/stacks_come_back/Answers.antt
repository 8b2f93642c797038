use Rattle.guard_runs.proofs.Pausing.{answers_law}
use Rattle.guard_runs.proofs.pauses.stacks_come_back.Goals as goal

pub returns : goal.returns
returns c = answers_law
