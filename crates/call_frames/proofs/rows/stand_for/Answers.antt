use Rattle.std.proofs.Common.{arith}
use Rattle.call_frames.proofs.RowLemmas.{left_last, left_next, too_many}
use Rattle.call_frames.proofs.rows.stand_for.Goals as goal

pub returns-then-left-size : goal.returns-then-left-size
returns-then-left-size c =
    too_many c.args.rows.now c.loop-row.row-index c.args.count c.loop-row.left (record { first = 0; more = 0 }) (omega (arith, c.loop-row-test.true)) (omega (arith, c.if-left-size.true))
    c.loop-row.invariant

pub loop-row-preserved : goal.loop-row-preserved
loop-row-preserved c =
    left_next c.args.rows.now c.loop-row.row-index c.args.count c.loop-row.left (record { first = 0; more = 0 }) (omega (arith, c.loop-row-test.true)) (omega (arith, c.if-left-size.false))
    c.loop-row.invariant

pub returns : goal.returns
returns c = left_last c.args.rows.now c.loop-row.row-index c.args.count c.loop-row.left (omega (arith, c.loop-row-test.false)) c.loop-row.invariant
