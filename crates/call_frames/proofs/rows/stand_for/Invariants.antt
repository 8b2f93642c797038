use Rattle.call_frames.proofs.RowLemmas.{Left}
use Rattle.call_frames.proofs.rows.stand_for.Given as goal

abbrev pub invariant-loop-row : goal.invariant-loop-row
invariant-loop-row l = Left l.rows l.row-index l.count l.left
