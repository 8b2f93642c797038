use Rattle.guard_runs.proofs.GuardedBodies.{same_code, body_keeps}
use Rattle.guard_runs.proofs.framed_code.bodies_keep.Goals as goal

pub returns-clause-code : goal.returns-clause-code
returns-clause-code c = same_code

pub returns-clause-keeps : goal.returns-clause-keeps
returns-clause-keeps c = body_keeps
