use Rattle.std.proofs.Common.{◌≤◌, ◌-◌, length}
use Rattle.live_frames.proofs.RowSteps.{Owes}
use Rattle.live_frames.proofs.testing.put_rows.Given as goal

abbrev pub invariant-loop-at : goal.invariant-loop-at
invariant-loop-at l = (l.at ≤ length l.rows) × Owes l.fn.out.items l.out.items l.index l.rows l.at

abbrev pub decreases-loop-at : goal.decreases-loop-at
decreases-loop-at l = length l.rows - l.at
