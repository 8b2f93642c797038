use Rattle.std.proofs.Common.{◌+◌, ◌-◌, true, arith, length-set, refl, subst, ◌∙◌}
use Rattle.live_frames.specs.Rows.{Tells}
use Rattle.live_frames.proofs.WordSteps.{row_none, row_whole, tells_next}
use Rattle.live_frames.proofs.words.tell_row.Goals as goal

pub loop-left-init : goal.loop-left-init
loop-left-init c = (omega arith, refl, λ others h. subst (Tells c.args.told.now.items) (row_none c.args.row.first c.args.row.more others) h)

pub index_mut-requires : goal.index_mut-requires
index_mut-requires c = omega (arith, c.requires, c.loop-left-test.true, c.loop-left.invariant.0, c.loop-left.invariant.1, c.loop-left.told.ok.0)

pub loop-left-preserved : goal.loop-left-preserved
loop-left-preserved c =
    let left = c.loop-left.left in
    let told = c.loop-left.told.items in (
      omega (arith, c.loop-left.invariant.0),
      length-set told (c.args.row.first + (left - 1)) true ∙ c.loop-left.invariant.1,
      λ others h. tells_next told c.args.row.first c.args.row.more left others (omega (arith, c.loop-left-test.true)) c.loop-left.invariant.0
          (omega (arith, c.loop-left-test.true, c.requires, c.loop-left.invariant.0, c.loop-left.invariant.1)) (c.loop-left.invariant.2 others h),
    )

pub returns-clause-calls : goal.returns-clause-calls
returns-clause-calls c others h =
    subst (Tells c.loop-left.told.items) (row_whole c.args.row.first c.args.row.more c.loop-left.left others (omega (arith, c.loop-left-test.false))) (c.loop-left.invariant.2 others h)
