use Rattle.std.proofs.Common.{◌≡◌, ◌+◌, ◌≤◌, length, refl, sym, ap, ◌∙◌, subst, arith}
use Rattle.local_spill.specs.Laying.{row_size, SizedAsSaved}
use Rattle.local_spill.proofs.LayLemmas.{row_step, row_end, size_step, size_end, sized_law, part_most}
use Rattle.local_spill.proofs.laying.layout.Goals as goal

pub overflow_add-offset : goal.overflow_add-offset
overflow_add-offset c =
    let e = size_step c.args.saved.now c.loop-place.place-index _ c.loop-place.offset c.width-offset.result (omega (arith, c.loop-place-test.true)) c.loop-place.invariant.1 c.width-offset.ensures in
    let m = part_most c.args.saved.now (c.loop-place.place-index + 1) in
    let few : length c.args.saved.now ≤ 50000 = c.requires in
    omega arith

pub loop-place-preserved : goal.loop-place-preserved
loop-place-preserved c = (
  row_step c.args.saved.now c.loop-place.place-index _ _ _ _ (omega (arith, c.loop-place-test.true)) c.loop-place.invariant.0 c.loop-place.invariant.1 c.in_ok-push.ensures.items,
  size_step c.args.saved.now c.loop-place.place-index _ _ _ (omega (arith, c.loop-place-test.true)) c.loop-place.invariant.1 c.width-offset.ensures,
)

pub overflow_add-result : goal.overflow_add-result
overflow_add-result c =
    let e = c.loop-place.invariant.1 in
    let m = part_most c.args.saved.now c.loop-place.place-index in
    let few : length c.args.saved.now ≤ 50000 = c.requires in
    omega arith

pub returns-clause-saved : goal.returns-clause-saved
returns-clause-saved c =
    let e : c.loop-place.offset ≡ row_size c.args.saved.now = c.loop-place.invariant.1 ∙ size_end c.args.saved.now c.loop-place.place-index (omega (arith, c.loop-place-test.false)) in
    subst (λ n. SizedAsSaved c.args.saved.now (n + 4)) (sym e) (sized_law c.args.saved.now)

pub loop-place-init : goal.loop-place-init
loop-place-init c = (grind arith, refl)

pub returns-clause-index : goal.returns-clause-index
returns-clause-index c = refl

pub returns-clause-places : goal.returns-clause-places
returns-clause-places c = c.loop-place.invariant.0 ∙ row_end c.args.saved.now c.loop-place.place-index (omega (arith, c.loop-place-test.false))

pub returns-clause-size : goal.returns-clause-size
returns-clause-size c = ap (λ n. n + 4) (c.loop-place.invariant.1 ∙ size_end c.args.saved.now c.loop-place.place-index (omega (arith, c.loop-place-test.false)))
