use Rattle.guard_runs.proofs.ReturnedStacks as R
use Rattle.guard_runs.proofs.framed_code.stacks_return.Goals as goal

pub returns : goal.returns
returns c = R.stacks_return
