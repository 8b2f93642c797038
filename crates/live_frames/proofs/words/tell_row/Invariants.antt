use Rattle.std.proofs.Common.{◌≡◌, ◌≤◌, ◌+◌, ◌++◌, ℕ, List, drop, length}
use Rattle.call_frames.specs.CallRows.{upto}
use Rattle.live_frames.specs.Rows.{Tells}
use Rattle.live_frames.proofs.words.tell_row.Given as goal

abbrev pub invariant-loop-left : goal.invariant-loop-left
invariant-loop-left l =
    (l.left ≤ l.row.more + 1) × (length l.told.items ≡ length l.fn.told.items)
    × ((others : List ℕ) → Tells l.fn.told.items others → Tells l.told.items (drop l.left (upto l.row.first l.row.more) ++ others))

abbrev pub decreases-loop-left : goal.decreases-loop-left
decreases-loop-left l = l.left
