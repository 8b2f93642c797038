use Rattle.std.proofs.Common.{◌≡◌, ◌≤◌, drop, length}
use Rattle.call_frames.specs.CallRows.{numbers_in, row_views}
use Rattle.call_frames.specs.PlainFrames.{calls_end}
use Rattle.live_frames.proofs.words.rows_end.Given as goal

abbrev pub invariant-loop-left : goal.invariant-loop-left
invariant-loop-left l = (l.left ≤ length l.rows) × (l.end ≡ calls_end (numbers_in (row_views (drop l.left l.rows)))) × (l.end ≤ 4294967296)

abbrev pub decreases-loop-left : goal.decreases-loop-left
decreases-loop-left l = l.left
