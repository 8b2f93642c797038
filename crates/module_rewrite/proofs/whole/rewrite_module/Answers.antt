use Rattle.std.proofs.Common.{ap, sym, subst, map, length, Err, None, ◌≡◌, ◌<◌, ◌^◌, ◌∙◌}
use Rattle.std.proofs.lemmas.Result.{err_from_is_err_and}
use Rattle.wa_types.specs.declared.syntax.Module.{Module as ModuleValue}
use Rattle.wa_types.specs.Runtime.{func_space, global_space}
use Rattle.wa_types.specs.View.{func_of, module_of}
use Rattle.wa_model.specs.Rewrites.{Rewrites}
use Rattle.local_spill.specs.Reserved.{reserved_at}
use Rattle.call_graph.specs.Settings.{settings_of}
use Rattle.emitted_form.specs.EmittedAs.{EmittedAs}
use Rattle.emitted_form.specs.PolicyLaws.{EachReadsFew}
use Rattle.module_rewrite.specs.Taking.{IsRefused}
use Rattle.module_rewrite.specs.Whole.{Instruments}
use Rattle.module_rewrite.proofs.InnerModule.{Inner, taken_inner}
use Rattle.module_rewrite.proofs.WholeLemmas.{globals_small, none_is, space_small, taking_fault, which_long}
use Rattle.module_rewrite.proofs.whole.rewrite_module.Goals as goal

pub pausing_functions-requires : goal.pausing_functions-requires
pausing_functions-requires c = c.deref.ensures.value ∙ c.in_ok-listed.ensures

pub ids_behind-ids-requires-clause-funcs : goal.ids_behind-ids-requires-clause-funcs
ids_behind-ids-requires-clause-funcs c =
    let v = c.args.valid.now in
    let m = module_of v in
    let same = c.module-module.ensures.same in
    subst (λ (z : ModuleValue). func_space (module_of z) < 2 ^ 31) (sym same) (space_small m c.requires.sizes)

pub ids_behind-ids-requires-clause-globals : goal.ids_behind-ids-requires-clause-globals
ids_behind-ids-requires-clause-globals c =
    let v = c.args.valid.now in
    let m = module_of v in
    let same = c.module-module.ensures.same in
    subst (λ (z : ModuleValue). global_space (module_of z) < 2 ^ 31) (sym same) (globals_small m c.requires.sizes)

pub rewrite_funcs-requires-clause-sizes : goal.rewrite_funcs-requires-clause-sizes
rewrite_funcs-requires-clause-sizes c = c.requires.sizes

pub rewrite_funcs-requires-clause-which : goal.rewrite_funcs-requires-clause-which
rewrite_funcs-requires-clause-which c =
    ap length c.deref-2.ensures.value ∙ which_long (module_of c.args.valid.now) (settings_of c.args.settings.now) c.in_ok-which.which.items c.in_ok-which.ensures

pub rewrite_funcs-requires-clause-listed : goal.rewrite_funcs-requires-clause-listed
rewrite_funcs-requires-clause-listed c = c.deref-3.ensures.value ∙ c.in_ok-listed.ensures

pub rewrite_funcs-requires-clause-fits : goal.rewrite_funcs-requires-clause-fits
rewrite_funcs-requires-clause-fits c = record { kept = λ i f e. tt; written = λ x f h e told few is. tt }

pub rewrite_funcs-requires-clause-empty : goal.rewrite_funcs-requires-clause-empty
rewrite_funcs-requires-clause-empty c = ap (map func_of) c.new-funcs.ensures.items

pub returns-in_err-rewrite_funcs : goal.returns-in_err-rewrite_funcs
returns-in_err-rewrite_funcs c =
    let v = c.args.valid.now in
    let m = module_of v in
    let same = c.module-module.ensures.same in
    let s = settings_of c.args.settings.now in
    let which = c.in_ok-which.which.items in
    let free : reserved_at m ≡ None = ap (λ (z : ModuleValue). reserved_at (module_of z)) (sym same) ∙ sym c.reserved.ensures ∙ none_is c.reserved.result c.in_default.not-Some in
    let p = err_from_is_err_and c.from_residual-in_err-rewrite_funcs.result c.from_residual-in_err-rewrite_funcs.ensures.1 in
    let h = subst (λ w. IsRefused m w c.in_err-rewrite_funcs.field-0.0) c.deref-2.ensures.value c.in_err-rewrite_funcs.ensures in
    subst (Instruments m s) (sym p.1) (subst (λ z. Instruments m s (Err z)) (sym p.2) (taking_fault m s which c.in_err-rewrite_funcs.field-0.0 free c.in_ok-which.ensures h))

pub with_parts-requires-clause-funcs : goal.with_parts-requires-clause-funcs
with_parts-requires-clause-funcs c =
    let m = module_of c.args.valid.now in
    let s = settings_of c.args.settings.now in
    let which = c.in_ok-which.which.items in
    let inner : Inner m s which (module_of c.in_ok-inner.inner) = taken_inner s which _ (map func_of c.rewrite_funcs.new.sink.items) _ c.args.valid.now c.in_ok-inner.inner c.reserved.result
    c.module-module.ensures.same c.module-module.ensures.valid c.requires.sizes c.reserved.ensures c.in_default.not-Some c.in_ok-which.ensures c.deref-2.ensures.value c.in_ok-rewrite_funcs.ensures c.in_ok-inner.ensures in
    inner.funcs_fit

pub with_parts-requires-clause-globals : goal.with_parts-requires-clause-globals
with_parts-requires-clause-globals c =
    let m = module_of c.args.valid.now in
    let s = settings_of c.args.settings.now in
    let which = c.in_ok-which.which.items in
    let inner : Inner m s which (module_of c.in_ok-inner.inner) = taken_inner s which _ (map func_of c.rewrite_funcs.new.sink.items) _ c.args.valid.now c.in_ok-inner.inner c.reserved.result
    c.module-module.ensures.same c.module-module.ensures.valid c.requires.sizes c.reserved.ensures c.in_default.not-Some c.in_ok-which.ensures c.deref-2.ensures.value c.in_ok-rewrite_funcs.ensures c.in_ok-inner.ensures in
    inner.globals_fit

pub with_parts-requires-clause-free : goal.with_parts-requires-clause-free
with_parts-requires-clause-free c =
    let m = module_of c.args.valid.now in
    let s = settings_of c.args.settings.now in
    let which = c.in_ok-which.which.items in
    let inner : Inner m s which (module_of c.in_ok-inner.inner) = taken_inner s which _ (map func_of c.rewrite_funcs.new.sink.items) _ c.args.valid.now c.in_ok-inner.inner c.reserved.result
    c.module-module.ensures.same c.module-module.ensures.valid c.requires.sizes c.reserved.ensures c.in_default.not-Some c.in_ok-which.ensures c.deref-2.ensures.value c.in_ok-rewrite_funcs.ensures c.in_ok-inner.ensures in
    inner.still_free

pub with_parts-requires-clause-valid : goal.with_parts-requires-clause-valid
with_parts-requires-clause-valid c =
    let m = module_of c.args.valid.now in
    let s = settings_of c.args.settings.now in
    let which = c.in_ok-which.which.items in
    let inner : Inner m s which (module_of c.in_ok-inner.inner) = taken_inner s which _ (map func_of c.rewrite_funcs.new.sink.items) _ c.args.valid.now c.in_ok-inner.inner c.reserved.result
    c.module-module.ensures.same c.module-module.ensures.valid c.requires.sizes c.reserved.ensures c.in_default.not-Some c.in_ok-which.ensures c.deref-2.ensures.value c.in_ok-rewrite_funcs.ensures c.in_ok-inner.ensures in
    inner.valid

pub with_parts-requires-clause-sizes : goal.with_parts-requires-clause-sizes
with_parts-requires-clause-sizes c =
    let m = module_of c.args.valid.now in
    let s = settings_of c.args.settings.now in
    let which = c.in_ok-which.which.items in
    let inner : Inner m s which (module_of c.in_ok-inner.inner) = taken_inner s which _ (map func_of c.rewrite_funcs.new.sink.items) _ c.args.valid.now c.in_ok-inner.inner c.reserved.result
    c.module-module.ensures.same c.module-module.ensures.valid c.requires.sizes c.reserved.ensures c.in_default.not-Some c.in_ok-which.ensures c.deref-2.ensures.value c.in_ok-rewrite_funcs.ensures c.in_ok-inner.ensures in
    inner.sizes

pub returns : goal.returns
returns c =
    let m = module_of c.args.valid.now in
    let s = settings_of c.args.settings.now in
    let which = c.in_ok-which.which.items in
    let inner : Inner m s which (module_of c.in_ok-inner.inner) = taken_inner s which _ (map func_of c.rewrite_funcs.new.sink.items) _ c.args.valid.now c.in_ok-inner.inner c.reserved.result
    c.module-module.ensures.same c.module-module.ensures.valid c.requires.sizes c.reserved.ensures c.in_default.not-Some c.in_ok-which.ensures c.deref-2.ensures.value c.in_ok-rewrite_funcs.ensures c.in_ok-inner.ensures in
    let is = c.in_ok-rewritten.ensures.done in
    record {
      free = inner.free;
      tells = c.in_ok-which.ensures;
      listed = c.in_ok-listed.ensures;
      few = inner.few;
      emitted = subst (EmittedAs m s which) (sym is) inner.emitted;
      rewrites = subst (Rewrites m s) (sym is) inner.rewrites;
      reads = subst (EachReadsFew m s which) (sym is) inner.reads;
    }
