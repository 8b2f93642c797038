use Rattle.std.proofs.Common.{◌≡◌, ◌+◌, drop}
use Rattle.call_frames.specs.CallRows.{row_views}
use Rattle.call_frames.specs.PlainFrames.{joined_size}
use Rattle.call_frames.proofs.measuring.rows_size.Given as goal

-- what is counted, and what is left
abbrev pub invariant-loop-row : goal.invariant-loop-row
invariant-loop-row l = l.size + joined_size (row_views (drop l.row-index l.rows)) ≡ joined_size (row_views l.rows)
