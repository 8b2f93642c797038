use Rattle.std.proofs.Common.{◌+◌, ◌-◌, ap, arith, length-set, refl, subst, ◌∙◌}
use Rattle.live_frames.specs.Digits.{HoldSums, summed}
use Rattle.live_frames.proofs.DigitSteps.{holds_front}
use Rattle.live_frames.proofs.WordSteps.{row_none, row_whole}
use Rattle.live_frames.proofs.digits.add_row.Goals as goal

pub loop-left-init : goal.loop-left-init
loop-left-init c = (
  omega arith,
  refl,
  λ sums named h. subst (λ ks. HoldSums sums c.args.bytes c.args.part ks c.args.sizes.now.items) (row_none c.args.row.first c.args.row.more named) h,
)

pub index-requires : goal.index-requires
index-requires c = omega (arith, c.requires, c.loop-left-test.true, c.loop-left.invariant.0, c.loop-left.invariant.1, c.loop-left.sizes.ok.0)

pub index_mut-requires : goal.index_mut-requires
index_mut-requires c = omega (arith, c.requires, c.loop-left-test.true, c.loop-left.invariant.0, c.loop-left.invariant.1, c.loop-left.sizes.ok.0)

pub loop-left-preserved : goal.loop-left-preserved
loop-left-preserved c =
    let left = c.loop-left.left in
    let sizes = c.loop-left.sizes.items in
    let size = c.with_part.result in (
      omega (arith, c.loop-left.invariant.0),
      length-set sizes (c.args.row.first + (left - 1)) size ∙ c.loop-left.invariant.1,
      λ sums named h. holds_front sums c.args.bytes c.args.part c.args.row.first c.args.row.more left named sizes size c.index.result.now (omega (arith, c.loop-left-test.true))
          c.loop-left.invariant.0 (omega (arith, c.requires, c.loop-left-test.true, c.loop-left.invariant.0, c.loop-left.invariant.1))
          (c.with_part.ensures ∙ ap (summed c.args.bytes c.args.part) c.index.ensures) (c.loop-left.invariant.2 sums named h),
    )

pub returns-clause-sums : goal.returns-clause-sums
returns-clause-sums c sums named h =
    subst (λ ks. HoldSums sums c.args.bytes c.args.part ks c.loop-left.sizes.items)
    (row_whole c.args.row.first c.args.row.more c.loop-left.left named (omega (arith, c.loop-left-test.false))) (c.loop-left.invariant.2 sums named h)
