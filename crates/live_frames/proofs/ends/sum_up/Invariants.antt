use Rattle.live_frames.proofs.EndSteps.{SummedUp}
use Rattle.live_frames.proofs.ends.sum_up.Given as goal

abbrev pub invariant-loop-call : goal.invariant-loop-call
invariant-loop-call l = SummedUp l.fn.sizes.items l.ends l.call l.more l.sizes.items
