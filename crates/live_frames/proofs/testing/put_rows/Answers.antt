use Rattle.std.proofs.Common.{arith, eqb-true, sym, ◌∙◌}
use Rattle.local_spill.proofs.PutLemmas.{put_one, const_is, num_is}
use Rattle.live_frames.proofs.RowSteps.{none_put, row_first, row_next, rows_end, some_rows}
use Rattle.live_frames.proofs.testing.put_rows.Goals as goal

pub returns-then-is_empty : goal.returns-then-is_empty
returns-then-is_empty c =
    none_put _ _ c.args.index c.args.rows.now (eqb-true _ 0 (sym c.is_empty.ensures ∙ c.if-is_empty.true)) (put_one _ _ _ _ c.in_ok-push.ensures.items (const_is _))

pub loop-at-init : goal.loop-at-init
loop-at-init c =
    let some = some_rows c.args.rows.now c.is_empty.result c.is_empty.ensures c.if-is_empty.false in (
      omega (arith, some),
      row_first _ _ c.args.index c.args.rows.now (record { first = 0; more = 0 }) some c.in_ok-put_row.ensures,
    )

pub loop-at-preserved : goal.loop-at-preserved
loop-at-preserved c = (
  omega (arith, c.loop-at-test.true),
  row_next c.args.out.now.items c.loop-at.out.items c.put_row-in-loop-at.new.out.items c.push-in-loop-at.new.self.items c.args.index c.args.rows.now c.loop-at.at (record { first = 0; more = 0 })
      (omega (arith, c.loop-at-test.true)) c.in_ok-put_row-2.ensures (put_one _ _ _ _ c.in_ok-push-2.ensures.items (num_is _)) c.loop-at.invariant.1,
)

pub returns : goal.returns
returns c = rows_end c.args.out.now.items c.loop-at.out.items c.args.index c.args.rows.now c.loop-at.at (omega (arith, c.loop-at-test.false)) c.loop-at.invariant.1
