use Rattle.std.proofs.Common.{arith, eqb-true, sym, ◌∙◌}
use Rattle.live_frames.proofs.CountSteps.{counts_last, counts_next, no_rows}
use Rattle.live_frames.proofs.counting.rows_size.Goals as goal

pub returns-then-is_empty : goal.returns-then-is_empty
returns-then-is_empty c = no_rows c.args.rows.now (eqb-true _ 0 (sym c.is_empty.ensures ∙ c.if-is_empty.true))

pub loop-at-preserved : goal.loop-at-preserved
loop-at-preserved c = (
  omega (arith, c.loop-at-test.true),
  counts_next c.args.rows.now c.loop-at.at c.loop-at.size _ c.saturating_add-size.result (record { first = 0; more = 0 }) (omega (arith, c.loop-at-test.true))
      (omega (arith, c.row_size.ensures.size)) c.saturating_add-size.ensures c.loop-at.invariant.1,
  omega (arith, c.saturating_add-size.ensures),
)

pub returns : goal.returns
returns c = counts_last c.args.rows.now c.loop-at.at c.loop-at.size (omega (arith, c.loop-at-test.false)) c.loop-at.invariant.2 c.loop-at.invariant.1
