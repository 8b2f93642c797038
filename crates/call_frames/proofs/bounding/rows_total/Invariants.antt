use Rattle.std.proofs.Common.{◌≤◌, length, take}
use Rattle.call_frames.specs.CallRows.{numbers_in, row_views}
use Rattle.call_frames.proofs.bounding.rows_total.Given as goal

abbrev pub invariant-loop-at : goal.invariant-loop-at
invariant-loop-at l = l.total ≤ length (numbers_in (row_views (take l.at l.rows)))
