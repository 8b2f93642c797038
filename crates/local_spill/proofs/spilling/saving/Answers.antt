use Rattle.std.proofs.Common.{◌≡◌, ◌+◌, ◌-◌, ap, ◌∙◌, arith}
use Rattle.local_spill.specs.Spilling.{saving, spill_indices, index_saved, location_raised, locals_stored, room_tested}
use Rattle.local_spill.proofs.PutLemmas.{put_on, put_first, stored_index}
use Rattle.local_spill.proofs.spilling.saving.Goals as goal

pub returns : goal.returns
returns c rest =
    let e : c.args.layout.now.size ≡ c.args.layout.now.size - 4 + 4 = omega (arith, c.requires.size) in
    let sp = c.args.base + 1 in
    put_first _ _ _ c.new-out.ensures.items
    (put_on _ _ _ _ _ (put_on _ _ _ _ _ (put_on _ _ _ _ _ c.in_ok-put_room_test.ensures c.in_ok-put_locals_stored.ensures) (stored_index _ _ _ _ _ _ c.index_place.ensures c.in_ok-put_stored.ensures)) c.in_ok-put_location_raised.ensures) rest
    ∙ ap (λ n. room_tested c.args.ids.now.address sp n (locals_stored sp c.deref.result.now
    (index_saved c.args.base sp (c.args.layout.now.size - 4) (location_raised c.args.ids.now.address sp n rest)))) e
    ∙ ap (λ ps. saving (spill_indices c.args.base c.args.ids.now) (c.args.layout.now.size - 4) ps rest) c.deref.ensures.value
