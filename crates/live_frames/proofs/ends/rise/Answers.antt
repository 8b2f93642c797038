use Rattle.std.proofs.Common.{arith}
use Rattle.live_frames.proofs.EndSteps.{rises_end, rises_next}
use Rattle.live_frames.proofs.ends.rise.Goals as goal

pub loop-row-init : goal.loop-row-init
loop-row-init c = λ h. h

pub loop-row-preserved : goal.loop-row-preserved
loop-row-preserved c =
    rises_next c.args.rows.now c.loop-row.row-index c.loop-row.end c.behind-end.result (record { first = 0; more = 0 }) (omega (arith, c.loop-row-test.true)) (omega (arith, c.if-first-end.false))
    c.behind-end.ensures c.loop-row.invariant

pub returns : goal.returns
returns c = λ e. rises_end c.args.rows.now c.loop-row.row-index c.loop-row.end (omega (arith, c.loop-row-test.false)) c.loop-row.invariant
