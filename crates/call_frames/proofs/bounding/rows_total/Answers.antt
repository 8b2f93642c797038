use Rattle.std.proofs.Common.{arith}
use Rattle.call_frames.proofs.Least.{rows_more}
use Rattle.call_frames.proofs.bounding.rows_total.Goals as goal

pub loop-at-preserved : goal.loop-at-preserved
loop-at-preserved c =
    let more = rows_more c.args.rows.now c.loop-at.at record { first = 0; more = 0 } c.loop-at-test.true in
    omega (arith, more, c.saturating_add-total.ensures, c.loop-at.invariant)
