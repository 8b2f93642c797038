use Rattle.std.proofs.Common.{◌≡◌, length, take}
use Rattle.call_frames.specs.CallRows.{row_views}
use Rattle.call_frames.proofs.rows.same_rows.Given as goal

abbrev pub invariant-loop-at : goal.invariant-loop-at
invariant-loop-at l = (length l.rows ≡ length l.others) × (row_views (take l.at l.rows) ≡ row_views (take l.at l.others))
