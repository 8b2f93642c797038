use Rattle.std.proofs.Common.{arith, ap, length, get_or, filter, false, ◌<◌, ◌∙◌}
use Rattle.std.proofs.lemmas.List.{take_all}
use Rattle.wa_types.specs.declared.values.ValType.TheVariants.{I32}
use Rattle.local_spill.specs.declared.frames.Place.{Place}
use Rattle.func_rewrite.proofs.FrameLemmas.{chosen_next}
use Rattle.func_rewrite.proofs.frames.chosen_frame.Goals as goal

pub loop-place-init : goal.loop-place-init
loop-place-init c = c.new-places.ensures.items

pub loop-place-preserved : goal.loop-place-preserved
loop-place-preserved c =
    let lt : c.loop-place.place-index < length c.args.frame.places.items = omega (arith, c.loop-place-test.true, ap length c.deref-place-items.ensures.value) in
    chosen_next (λ (p : Place). get_or c.args.kept.now p.local false) c.args.frame.places.items c.loop-place.place-index _ (record { local = 0; ty = I32; offset = 0 }) lt
    (ap (λ xs. get_or xs c.loop-place.place-index (record { local = 0; ty = I32; offset = 0 })) c.deref-place-items.ensures.value)
    c.loop-place.places.items _ c.in_ok-put_place.ensures c.loop-place.invariant

pub returns-clause-places : goal.returns-clause-places
returns-clause-places c =
    c.loop-place.invariant
    ∙ ap (filter (λ (p : Place). get_or c.args.kept.now p.local false)) (take_all c.loop-place.place-index c.args.frame.places.items
    (omega (arith, c.loop-place-test.false, ap length c.deref-place-items.ensures.value)))
