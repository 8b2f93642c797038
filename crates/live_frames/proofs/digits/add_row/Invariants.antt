use Rattle.std.proofs.Common.{◌≡◌, ◌≤◌, ◌+◌, ◌++◌, ℕ, List, drop, length}
use Rattle.call_frames.specs.CallRows.{upto}
use Rattle.live_frames.specs.Digits.{HoldSums}
use Rattle.live_frames.proofs.digits.add_row.Given as goal

abbrev pub invariant-loop-left : goal.invariant-loop-left
invariant-loop-left l =
    (l.left ≤ l.row.more + 1) × (length l.sizes.items ≡ length l.fn.sizes.items)
    × ((sums : ℕ → ℕ) (named : List ℕ) → HoldSums sums l.bytes l.part named l.fn.sizes.items → HoldSums sums l.bytes l.part (drop l.left (upto l.row.first l.row.more) ++ named) l.sizes.items)

abbrev pub decreases-loop-left : goal.decreases-loop-left
decreases-loop-left l = l.left
