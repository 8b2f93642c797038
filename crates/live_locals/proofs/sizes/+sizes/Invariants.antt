use Rattle.std.proofs.Common.{◌≤◌, length}
use Rattle.live_locals.proofs.sizes.+sizes.Given as goal

abbrev pub invariant-put_body_sizes-loop-left : goal.invariant-put_body_sizes-loop-left
invariant-put_body_sizes-loop-left l = l.left ≤ length l.body

abbrev pub decreases-put_body_sizes-loop-left : goal.decreases-put_body_sizes-loop-left
decreases-put_body_sizes-loop-left l = l.left
