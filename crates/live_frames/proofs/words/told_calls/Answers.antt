use Rattle.std.proofs.Common.{◌-◌, ◌∙◌, arith, subst}
use Rattle.live_frames.specs.Rows.{Tells}
use Rattle.live_frames.proofs.WordSteps.{rows_below, rows_front, rows_whole}
use Rattle.live_frames.proofs.words.told_calls.Goals as goal

pub tell_row-requires : goal.tell_row-requires
tell_row-requires c =
    let b = rows_below c.args.rows.now (c.loop-left.left - 1) (record { first = 0; more = 0 }) (omega (arith, c.loop-left-test.true, c.loop-left.invariant.0)) in
    omega (arith, b, c.requires, c.loop-left.invariant.1)

pub loop-left-preserved : goal.loop-left-preserved
loop-left-preserved c =
    let left = c.loop-left.left in (
      omega (arith, c.loop-left.invariant.0),
      c.tell_row.ensures.size ∙ c.loop-left.invariant.1,
      subst (Tells c.tell_row.new.told.items) (rows_front c.args.rows.now left (record { first = 0; more = 0 }) (omega (arith, c.loop-left-test.true)) c.loop-left.invariant.0)
          (c.tell_row.ensures.calls _ c.loop-left.invariant.2),
    )

pub returns-clause-calls : goal.returns-clause-calls
returns-clause-calls c = subst (Tells c.loop-left.told.items) (rows_whole c.args.rows.now c.loop-left.left (omega (arith, c.loop-left-test.false))) c.loop-left.invariant.2
