use Rattle.std.proofs.Common.{◌≡◌, ◌≤◌, ℕ, length}
use Rattle.live_frames.specs.Ends.{EndSums}
use Rattle.live_frames.proofs.EndSteps.{with_rows}
use Rattle.live_frames.proofs.ends.add_ends.Given as goal

abbrev pub invariant-loop-left : goal.invariant-loop-left
invariant-loop-left l =
    (l.left ≤ length l.rows) × (length l.ends.items ≡ length l.fn.ends.items)
    × ((sums : ℕ → ℕ) → EndSums sums l.fn.ends.items → EndSums (with_rows sums l.rows l.bytes l.left) l.ends.items)

abbrev pub decreases-loop-left : goal.decreases-loop-left
decreases-loop-left l = l.left
