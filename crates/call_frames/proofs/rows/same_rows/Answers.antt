use Rattle.std.proofs.Common.{ap, arith}
use Rattle.call_frames.specs.CallTests.{CallRow}
use Rattle.call_frames.proofs.RowLemmas.{views_at, views_length}
use Rattle.call_frames.proofs.rows.same_rows.Goals as goal

pub returns-then-rows-others-clause-other : goal.returns-then-rows-others-clause-other
returns-then-rows-others-clause-other c e = absurd (c.if-rows-others.true (views_length c.args.rows.now c.args.others.now e))

pub returns-then-rows-at-clause-other : goal.returns-then-rows-at-clause-other
returns-then-rows-at-clause-other c e =
    let v = views_at c.args.rows.now c.args.others.now c.loop-at.at (record { first = 0; more = 0 }) (record { first = 0; more = 0 }) (omega (arith, c.loop-at-test.true))
    (omega (arith, c.loop-at-test.true, c.loop-at.invariant.0)) e in
    absurd (c.if-rows-at.true (ap (λ (r : CallRow). r.first) v))

pub returns-then-rows-at-2-clause-other : goal.returns-then-rows-at-2-clause-other
returns-then-rows-at-2-clause-other c e =
    let v = views_at c.args.rows.now c.args.others.now c.loop-at.at (record { first = 0; more = 0 }) (record { first = 0; more = 0 }) (omega (arith, c.loop-at-test.true))
    (omega (arith, c.loop-at-test.true, c.loop-at.invariant.0)) e in
    absurd (c.if-rows-at-2.true (ap (λ (r : CallRow). r.more) v))
