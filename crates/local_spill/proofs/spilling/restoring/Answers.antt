use Rattle.std.proofs.Common.{◌≡◌, ◌+◌, ◌-◌, ap, ◌∙◌, arith}
use Rattle.local_spill.specs.Spilling.{restoring, spill_indices, index_restored, location_taken, locals_loaded}
use Rattle.local_spill.proofs.PutLemmas.{put_on, put_first, loaded_index}
use Rattle.local_spill.proofs.spilling.restoring.Goals as goal

pub returns : goal.returns
returns c rest =
    let e : c.args.layout.now.size ≡ c.args.layout.now.size - 4 + 4 = omega (arith, c.requires.size) in
    let sp = c.args.base + 1 in
    put_first _ _ _ c.new-out.ensures.items
    (put_on _ _ _ _ _ (put_on _ _ _ _ _ c.in_ok-put_location_taken.ensures c.in_ok-put_locals_loaded.ensures) (loaded_index _ _ _ _ _ _ c.index_place.ensures c.in_ok-put_loaded.ensures)) rest
    ∙ ap (λ n. location_taken c.args.ids.now.address sp n (locals_loaded sp c.deref.result.now (index_restored c.args.base sp (c.args.layout.now.size - 4) rest))) e
    ∙ ap (λ ps. restoring (spill_indices c.args.base c.args.ids.now) (c.args.layout.now.size - 4) ps rest) c.deref.ensures.value
