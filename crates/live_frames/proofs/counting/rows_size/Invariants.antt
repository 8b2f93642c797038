use Rattle.std.proofs.Common.{◌≤◌, ◌-◌, length}
use Rattle.live_frames.proofs.CountSteps.{Counts}
use Rattle.live_frames.proofs.counting.rows_size.Given as goal

abbrev pub invariant-loop-at : goal.invariant-loop-at
invariant-loop-at l = (l.at ≤ length l.rows) × Counts l.size l.rows l.at × (l.size ≤ 18446744073709551615)

abbrev pub decreases-loop-at : goal.decreases-loop-at
decreases-loop-at l = length l.rows - l.at
