use Rattle.std.proofs.Common.{◌≡◌, ◌≤◌, drop, length}
use Rattle.call_frames.specs.CallRows.{numbers_in, row_views}
use Rattle.live_frames.specs.Rows.{Tells}
use Rattle.live_frames.proofs.words.told_calls.Given as goal

abbrev pub invariant-loop-left : goal.invariant-loop-left
invariant-loop-left l = (l.left ≤ length l.rows) × (length l.told.items ≡ l.count) × Tells l.told.items (numbers_in (row_views (drop l.left l.rows)))

abbrev pub decreases-loop-left : goal.decreases-loop-left
decreases-loop-left l = l.left
