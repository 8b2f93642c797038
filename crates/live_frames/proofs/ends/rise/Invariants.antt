use Rattle.live_frames.proofs.EndSteps.{Rises}
use Rattle.live_frames.proofs.ends.rise.Given as goal

abbrev pub invariant-loop-row : goal.invariant-loop-row
invariant-loop-row l = Rises l.rows l.row-index l.end
