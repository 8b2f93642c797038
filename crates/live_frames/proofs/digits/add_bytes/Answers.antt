use Rattle.std.proofs.Common.{◌-◌, ◌∙◌, ap, arith, length, refl, subst, sym}
use Rattle.std.proofs.lemmas.List.{drop_all}
use Rattle.call_frames.specs.CallRows.{numbers_in, row_views}
use Rattle.live_frames.specs.Digits.{HoldSums}
use Rattle.live_frames.proofs.WordSteps.{rows_below, rows_front, rows_whole}
use Rattle.live_frames.proofs.digits.add_bytes.Goals as goal

pub loop-left-init : goal.loop-left-init
loop-left-init c = (
  omega arith,
  refl,
  λ sums h. subst (λ ks. HoldSums sums c.args.bytes c.args.part ks c.args.sizes.now.items) (sym (ap (λ rs. numbers_in (row_views rs)) (drop_all (length c.args.rows.now) c.args.rows.now (omega arith)))) h,
)

pub add_row-requires : goal.add_row-requires
add_row-requires c =
    let b = rows_below c.args.rows.now (c.loop-left.left - 1) (record { first = 0; more = 0 }) (omega (arith, c.loop-left-test.true, c.loop-left.invariant.0)) in
    omega (arith, b, c.requires, c.loop-left.invariant.1)

pub loop-left-preserved : goal.loop-left-preserved
loop-left-preserved c =
    let left = c.loop-left.left in (
      omega (arith, c.loop-left.invariant.0),
      c.add_row.ensures.length ∙ c.loop-left.invariant.1,
      λ sums h. subst (λ ks. HoldSums sums c.args.bytes c.args.part ks c.add_row.new.sizes.items)
          (rows_front c.args.rows.now left (record { first = 0; more = 0 }) (omega (arith, c.loop-left-test.true)) c.loop-left.invariant.0)
          (c.add_row.ensures.sums sums _ (c.loop-left.invariant.2 sums h)),
    )

pub returns-clause-sums : goal.returns-clause-sums
returns-clause-sums c sums h =
    subst (λ ks. HoldSums sums c.args.bytes c.args.part ks c.loop-left.sizes.items) (rows_whole c.args.rows.now c.loop-left.left (omega (arith, c.loop-left-test.false)))
    (c.loop-left.invariant.2 sums h)
