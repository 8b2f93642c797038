use Rattle.std.proofs.Common.{arith, refl, ap, sym, subst, length, get_or, take, drop, map, Bool, false, All, ◌∙◌, ◌≡◌, ◌+◌, ◌<◌, ◌++◌, ◌∷◌, []}
use Rattle.wa_types.specs.declared.values.ValType.TheVariants.{I32, I64}
use Rattle.run_theory.specs.FlatFits.{one_run}
use Rattle.local_spill.specs.Laying.{in_a_row, row_size}
use Rattle.func_rewrite.specs.WrittenFrames.{numbered_places}
use Rattle.wa_types.specs.Pausing.{places_from}
use Rattle.wa_types.specs.View.{code, func_of, module_of}
use Rattle.run_theory.specs.FlatView.{flat_func_of}
use Rattle.call_graph.specs.Settings.{settings_of}
use Rattle.flow_rewrite.specs.Numbering.{callees, gets_number}
use Rattle.flow_rewrite.specs.Emitting.{Rises}
use Rattle.local_spill.specs.declared.frames.Place.{Place}
use Rattle.emitted_form.specs.Emitted.{is_kept}
use Rattle.func_rewrite.proofs.CallNumbers.{places_rise}
use Rattle.func_rewrite.proofs.WrittenFuncs.{fits, few_calls, stacks, numbers, own_few, saved_few, places_few, row_fits, kept_is, slots_told, is_written}
use Rattle.func_rewrite.proofs.function.write_func.Goals as goal

pub number_calls-requires : goal.number_calls-requires
number_calls-requires c = few_calls (module_of c.args.pass.now.valid.now) (settings_of c.args.pass.now.settings.now) c.args.pass.now.which.now
    (func_of c.args.source.now) c.args.flat.now c.requires.valid c.requires.sizes c.requires.flat

pub kept_locals-requires-clause-rises : goal.kept_locals-requires-clause-rises
kept_locals-requires-clause-rises c = subst Rises (sym (c.deref.ensures.value ∙ c.in_ok-numbers.ensures))
    (places_rise (gets_number c.args.pass.now.which.now c.args.pass.now.listed.now c.args.pass.now.settings.now.ignore_indirect) 0 (callees (flat_func_of c.args.flat.now.func).body))

pub kept_locals-requires-clause-fits : goal.kept_locals-requires-clause-fits
kept_locals-requires-clause-fits c = stacks (module_of c.args.pass.now.valid.now) (settings_of c.args.pass.now.settings.now) c.args.pass.now.which.now
    (func_of c.args.source.now) c.args.flat.now c.requires.valid c.requires.sizes c.requires.flat

pub kept_locals-requires-clause-few : goal.kept_locals-requires-clause-few
kept_locals-requires-clause-few c = few_calls (module_of c.args.pass.now.valid.now) (settings_of c.args.pass.now.settings.now) c.args.pass.now.which.now
    (func_of c.args.source.now) c.args.flat.now c.requires.valid c.requires.sizes c.requires.flat

pub kept_locals-requires-clause-own : goal.kept_locals-requires-clause-own
kept_locals-requires-clause-own c = own_few (module_of c.args.pass.now.valid.now) (settings_of c.args.pass.now.settings.now) c.args.pass.now.which.now
    (func_of c.args.source.now) c.args.flat.now c.requires.valid c.requires.sizes c.requires.flat

pub saved_places-requires : goal.saved_places-requires
saved_places-requires c = let e = ap length c.deref-2.ensures.value in let k = saved_few (module_of c.args.pass.now.valid.now) (settings_of c.args.pass.now.settings.now) c.args.pass.now.which.now
    (func_of c.args.source.now) c.args.flat.now c.requires.valid c.requires.sizes c.requires.flat in omega (arith, e, k)

pub layout-requires : goal.layout-requires
layout-requires c = let e = ap length c.deref-3.ensures.value in let k = places_few (module_of c.args.pass.now.valid.now) (settings_of c.args.pass.now.settings.now) c.args.pass.now.which.now
    (func_of c.args.source.now) c.args.flat.now c.requires.valid c.requires.sizes c.requires.flat c.in_ok-saved.saved.items (c.in_ok-saved.ensures
    ∙ ap (λ xs. numbered_places 0 (take c.args.flat.now.first_result xs)) c.deref-2.ensures.value) in omega (arith, e, k)

pub chosen_frame-requires : goal.chosen_frame-requires
chosen_frame-requires c =
    let len : length c.deref-4.result.now ≡ length c.args.flat.now.func.locals.items = ap length c.deref-4.ensures.value ∙ c.in_ok-kept.ensures.size in
    let row : c.in_ok-layout.field-0.places.items ≡ in_a_row 0 c.in_ok-saved.saved.items = c.in_ok-layout.ensures.places ∙ ap (in_a_row 0) c.deref-3.ensures.value in
    subst (λ n. All (λ (p : Place). p.local < n) c.in_ok-layout.field-0.places.items) (sym len)
    (subst (All (λ (p : Place). p.local < length c.args.flat.now.func.locals.items)) (sym row)
    (row_fits (module_of c.args.pass.now.valid.now) (settings_of c.args.pass.now.settings.now) c.args.pass.now.which.now
    (func_of c.args.source.now) c.args.flat.now c.requires.valid c.requires.sizes c.requires.flat c.in_ok-saved.saved.items (c.in_ok-saved.ensures
    ∙ ap (λ xs. numbered_places 0 (take c.args.flat.now.first_result xs)) c.deref-2.ensures.value)))

pub written_body-requires-clause-fits : goal.written_body-requires-clause-fits
written_body-requires-clause-fits c = fits (module_of c.args.pass.now.valid.now) (settings_of c.args.pass.now.settings.now) c.args.pass.now.which.now
    (func_of c.args.source.now) c.args.flat.now c.requires.valid c.requires.sizes c.requires.flat

pub written_body-requires-clause-rises : goal.written_body-requires-clause-rises
written_body-requires-clause-rises c = subst Rises (sym (c.deref-7.ensures.value ∙ c.in_ok-numbers.ensures))
    (places_rise (gets_number c.args.pass.now.which.now c.args.pass.now.listed.now c.args.pass.now.settings.now.ignore_indirect) 0 (callees (flat_func_of c.args.flat.now.func).body))

pub written_body-requires-clause-few : goal.written_body-requires-clause-few
written_body-requires-clause-few c = few_calls (module_of c.args.pass.now.valid.now) (settings_of c.args.pass.now.settings.now) c.args.pass.now.which.now
    (func_of c.args.source.now) c.args.flat.now c.requires.valid c.requires.sizes c.requires.flat

pub written_body-requires-clause-slots : goal.written_body-requires-clause-slots
written_body-requires-clause-slots c = slots_told (module_of c.args.pass.now.valid.now) (settings_of c.args.pass.now.settings.now) c.args.pass.now.which.now
    (func_of c.args.source.now) c.args.flat.now c.requires.valid c.requires.sizes c.requires.flat

pub returns : goal.returns
returns c =
    let m = module_of c.args.pass.now.valid.now in
    let s = settings_of c.args.pass.now.settings.now in
    let which = c.args.pass.now.which.now in
    let f = func_of c.args.source.now in
    let v = c.args.flat.now in
    let named = c.in_ok-saved.ensures ∙ ap (λ xs. numbered_places 0 (take v.first_result xs)) c.deref-2.ensures.value in
    let numbered = c.in_ok-numbers.ensures ∙ ap (λ l. places_from (gets_number which l c.args.pass.now.settings.now.ignore_indirect) 0 (callees (flat_func_of v.func).body)) c.requires.listed
    ∙ numbers m s which f v c.requires.valid c.requires.sizes c.requires.flat in
    let kept : Place → Bool = λ (p : Place). get_or c.deref-4.result.now p.local false in
    let row : c.in_ok-layout.field-0.places.items ≡ in_a_row 0 c.in_ok-saved.saved.items = c.in_ok-layout.ensures.places ∙ ap (in_a_row 0) c.deref-3.ensures.value in
    let rows : c.in_ok-layout.field-0.size ≡ row_size c.in_ok-saved.saved.items + 4 = c.in_ok-layout.ensures.size ∙ ap (λ xs. row_size xs + 4) c.deref-3.ensures.value in
    let same : (p : Place) → kept p ≡ is_kept m s which v.func.func f p.local =
    λ p. ap (λ xs. get_or xs p.local false) c.deref-4.ensures.value ∙ c.in_ok-kept.ensures.kept p.local
    ∙ kept_is m s which f v c.requires.valid c.requires.sizes c.requires.flat c.in_ok-saved.saved.items named v.first_slot c.deref.result.now p.local refl (c.deref.ensures.value ∙ numbered) in
    let locals = c.in_ok-locals.ensures ∙ ap (λ rs. rs ++ map one_run (drop v.first_slot c.deref-6.result.now ++ I32 ∷ I32 ∷ I64 ∷ [])) c.deref-5.ensures.value
    ∙ ap (λ ls. c.args.source.now.locals.items ++ map one_run (drop v.first_slot ls ++ I32 ∷ I32 ∷ I64 ∷ [])) c.deref-6.ensures.value in
    is_written m s which f v c.requires.valid c.requires.sizes c.requires.flat c.in_ok-saved.saved.items named c.args.pass.now.ids.now c.deref-7.result.now c.in_ok-frame.frame.places.items
    c.in_ok-layout.field-0.places.items kept c.in_ok-frame.frame.size c.in_ok-layout.field-0.size c.in_ok-locals.locals.items (code c.in_ok-body.body.items) c.requires.ids
    (c.deref-7.ensures.value ∙ numbered) row rows c.in_ok-frame.ensures.size same c.in_ok-frame.ensures.places locals (c.in_ok-body.ensures m f c.requires.flat)
