use Rattle.std.proofs.Common.{arith, length, refl, ◌∙◌, ◌-◌}
use Rattle.call_frames.proofs.RowLemmas.{fits_at}
use Rattle.live_frames.proofs.WordSteps.{end_first, end_last, end_next}
use Rattle.live_frames.proofs.words.rows_end.Goals as goal

pub loop-left-init : goal.loop-left-init
loop-left-init c = (omega arith, end_first c.args.rows.now (length c.args.rows.now) refl, omega arith)

pub past-end-requires-clause-end : goal.past-end-requires-clause-end
past-end-requires-clause-end c = c.loop-left.invariant.2

pub past-end-requires-clause-row : goal.past-end-requires-clause-row
past-end-requires-clause-row c =
    fits_at c.args.rows.now (c.loop-left.left - 1) (record { first = 0; more = 0 }) (omega (arith, c.loop-left-test.true, c.loop-left.invariant.0)) c.requires

pub loop-left-preserved : goal.loop-left-preserved
loop-left-preserved c = (
  omega (arith, c.loop-left.invariant.0),
  c.past-end.ensures.end
      ∙ end_next c.args.rows.now c.loop-left.left c.loop-left.end (record { first = 0; more = 0 }) (omega (arith, c.loop-left-test.true)) c.loop-left.invariant.0 c.loop-left.invariant.1,
  c.past-end.ensures.small,
)

pub returns-clause-end : goal.returns-clause-end
returns-clause-end c = end_last c.args.rows.now c.loop-left.left c.loop-left.end (omega (arith, c.loop-left-test.false)) c.loop-left.invariant.1

pub returns-clause-small : goal.returns-clause-small
returns-clause-small c = c.loop-left.invariant.2
