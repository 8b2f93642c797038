use Rattle.std.proofs.Common.{◌≡◌, ◌≤◌, ℕ, [], drop, length}
use Rattle.call_frames.specs.CallRows.{numbers_in, row_views}
use Rattle.live_frames.specs.Digits.{HoldSums}
use Rattle.live_frames.proofs.digits.add_bytes.Given as goal

abbrev pub invariant-loop-left : goal.invariant-loop-left
invariant-loop-left l =
    (l.left ≤ length l.rows) × (length l.sizes.items ≡ length l.fn.sizes.items)
    × ((sums : ℕ → ℕ) → HoldSums sums l.bytes l.part [] l.fn.sizes.items → HoldSums sums l.bytes l.part (numbers_in (row_views (drop l.left l.rows))) l.sizes.items)

abbrev pub decreases-loop-left : goal.decreases-loop-left
decreases-loop-left l = l.left
