use Rattle.std.proofs.Common.{◌-◌, ◌∙◌, arith, length, refl}
use Rattle.live_frames.proofs.EndSteps.{rows_first, rows_last, rows_next}
use Rattle.live_frames.proofs.WordSteps.{rows_below}
use Rattle.live_frames.proofs.ends.add_ends.Goals as goal

pub loop-left-init : goal.loop-left-init
loop-left-init c = (omega arith, refl, λ sums h. rows_first sums c.args.rows.now c.args.bytes (length c.args.rows.now) c.args.ends.now.items refl h)

pub add_row_ends-requires : goal.add_row_ends-requires
add_row_ends-requires c =
    let b = rows_below c.args.rows.now (c.loop-left.left - 1) (record { first = 0; more = 0 }) (omega (arith, c.loop-left-test.true, c.loop-left.invariant.0)) in
    omega (arith, b, c.requires.end, c.loop-left.invariant.1)

pub loop-left-preserved : goal.loop-left-preserved
loop-left-preserved c = (
  omega (arith, c.loop-left.invariant.0),
  c.add_row_ends.ensures.length ∙ c.loop-left.invariant.1,
  λ sums h. rows_next sums c.args.rows.now c.args.bytes c.loop-left.left (record { first = 0; more = 0 }) c.loop-left.ends.items c.add_row_ends.new.ends.items (omega (arith, c.loop-left-test.true))
      c.loop-left.invariant.0 c.requires.rise c.add_row_ends.ensures.more (c.loop-left.invariant.2 sums h),
)

pub returns-clause-sums : goal.returns-clause-sums
returns-clause-sums c = λ sums h.
    rows_last sums c.args.rows.now c.args.bytes c.loop-left.left c.loop-left.ends.items (omega (arith, c.loop-left-test.false)) (c.loop-left.invariant.2 sums h)
