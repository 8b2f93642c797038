use Rattle.std.proofs.Common.{◌≡◌, ◌++◌, ap, sym, subst, ◌∙◌, get_or}
use Rattle.wa_types.specs.declared.syntax.Module.{Module as ModuleValue}
use Rattle.wa_types.specs.Validity.{Valid as IsValid}
use Rattle.wa_types.specs.Syntax.{Func}
use Rattle.wa_types.specs.Frames.{named_places, Saved}
use Rattle.wa_types.specs.Modules.{locals_of}
use Rattle.wa_types.specs.Pruned.{pruned}
use Rattle.wa_types.specs.View.{code, func_of, module_of}
use Rattle.wasm_validate.proofs.FuncLemmas.{func_at}
use Rattle.call_graph.specs.Settings.{policy_of}
use Rattle.frame_sizes.specs.Frames.{keep_local, places_of}
use Rattle.frame_sizes.specs.Points.{lists_of, points_at, calls_at}
use Rattle.frame_sizes.specs.Slots.{pairs_of}
use Rattle.frame_sizes.proofs.SavedLemmas.{pruned_typed, saved_whole, same_some}
use Rattle.frame_sizes.proofs.frames.saved_at.Goals as goal

pub visit_body-requires : goal.visit_body-requires
visit_body-requires c =
    let v = c.args.valid.now in
    let same = c.module-module.ensures.same in
    let valid = subst (λ (z : ModuleValue). IsValid (module_of z)) same c.module-module.ensures.valid in
    let f = c.index-source.result.now in
    let at : f ≡ get_or v.funcs.items c.args.index f = c.index-source.ensures ∙ ap (λ (z : ModuleValue). get_or z.funcs.items c.args.index f) same in
    let there = func_at v.funcs.items c.args.index f c.requires.within at in
    pruned_typed (module_of v) c.args.index (func_of f) c.in_ok-typing.typing (code c.deref-2.result.now) valid there (c.in_ok-typing.ensures (func_of f) (c.requires.same ∙ there))
    (ap code c.deref-2.ensures.value ∙ c.in_ok-body.ensures ∙ ap (λ xs. pruned (code xs)) c.deref.ensures.value)

pub returns : goal.returns
returns c = λ g is.
    let v = c.args.valid.now in
    let p = policy_of c.args.policy in
    let same = c.module-module.ensures.same in
    let f = c.index-source.result.now in
    let at : f ≡ get_or v.funcs.items c.args.index f = c.index-source.ensures ∙ ap (λ (z : ModuleValue). get_or z.funcs.items c.args.index f) same in
    let there = func_at v.funcs.items c.args.index f c.requires.within at in
    let w = c.in_ok-typing.typing in
    let body = code c.deref-2.result.now in
    let visited = c.in_ok-visit_body.ensures in
    saved_whole (module_of v) p (func_of f) c.args.place c.len.result w body (code c.deref-4.result.now)
    (lists_of c.visit_body.new.visits.points.items) (lists_of c.visit_body.new.visits.calls.items) (lists_of c.deref-3.result.now) (lists_of c.deref-6.result.now)
    c.in_ok-locals.locals.items c.deref-5.result.now (pairs_of c.in_ok-slots.slots.items) (pairs_of c.deref-7.result.now) (places_of c.put_named.new.places.items)
    (places_of c.put_slots.new.places.items)
    (c.in_ok-typing.ensures (func_of f) (c.requires.same ∙ there))
    (ap code c.deref-2.ensures.value ∙ c.in_ok-body.ensures ∙ ap (λ xs. pruned (code xs)) c.deref.ensures.value)
    (ap code (c.deref-4.ensures.value ∙ sym c.deref-2.ensures.value))
    (visited.points ∙ ap (λ vs. lists_of vs ++ points_at w body) c.new.ensures.items) (visited.calls ∙ ap (λ vs. lists_of vs ++ calls_at w body) c.new-2.ensures.items)
    (ap lists_of c.deref-3.ensures.value) (ap lists_of c.deref-6.ensures.value) c.in_ok-slots.ensures (ap pairs_of c.deref-7.ensures.value)
    (c.in_ok-locals.ensures ∙ ap (λ (z : ModuleValue). locals_of (module_of z) (func_of f)) same) c.deref-5.ensures.value (c.len.ensures ∙ sym c.deref-5.ensures.len)
    (c.in_ok-put_named.ensures ∙ ap (λ ps. places_of ps ++ named_places (keep_local p (code c.deref-4.result.now) c.args.place) 0 c.deref-5.result.now) c.new-places.ensures.items)
    c.in_ok-put_slots.ensures
    ∙ ap (λ (h : Func). Saved (module_of v) p h c.args.place) (same_some (func_of f) g (sym there ∙ is))
