-- The module whose functions were written, in front of the runtime's parts: what its callers ask of it, and what the whole is.
use Rattle.std.proofs.Common.{◌≡◌, ◌∙◌, ◌<◌, ◌^◌, List, map, drop, Option, Some, None, Bool, refl, sym, ap, subst}
use Rattle.wa_types.specs.declared.syntax.Module.{Module as ModuleValue}
use Rattle.wa_types.specs.Modules.{func_imports}
use Rattle.wa_types.specs.Pausing.{Settings, TellsMayPause}
use Rattle.wa_types.specs.Runtime.{func_space, global_space, with_runtime}
use Rattle.wa_types.specs.Sizes.{SizeRule, StrictSizeRule}
use Rattle.wa_types.specs.Syntax.{Func, Module}
use Rattle.wa_types.specs.Validity.{Valid}
use Rattle.wa_types.specs.View.{module_of}
use Rattle.wa_model.specs.Rewrites.{Rewrites}
use Rattle.local_spill.specs.Reserved.{reserved_at}
use Rattle.local_spill.specs.declared.reserving.ReservedAt.{ReservedAt}
use Rattle.flatten.specs.Whole.{NonePasses}
use Rattle.emitted_form.specs.EmittedAs.{AreEmitted, EmittedAs}
use Rattle.emitted_form.specs.PolicyLaws.{CanBeEmitted, EachReadsFew}
use Rattle.emitted_form.proofs.PolicyCases.{functions_law, rewrites_as, sizes_as, valid_as}
use Rattle.emitted_form.proofs.PolicyReads.{emitted_reads}
use Rattle.module_rewrite.specs.Taking.{AllTaken}
use Rattle.module_rewrite.proofs.FreeNames.{unreserved_is_free}
use Rattle.module_rewrite.proofs.WholeLemmas.{few_written, globals_small, made_space, none_is}

-- q is the module m with written functions in place of its own.
pub record Inner (m : Module) (s : Settings) (which : List Bool) (q : Module) : Type 0 where
  pub free : reserved_at m ≡ None
  pub few : NonePasses m (drop (func_imports m) which) m.funcs
  pub funcs_fit : func_space q < 2 ^ 31
  pub globals_fit : global_space q < 2 ^ 31
  pub still_free : reserved_at q ≡ None
  pub valid : Valid (with_runtime q)
  pub sizes : SizeRule (with_runtime q)
  pub emitted : EmittedAs m s which (with_runtime q)
  pub rewrites : Rewrites m s (with_runtime q)
  pub reads : EachReadsFew m s which (with_runtime q)

inner_of : (m : Module) (s : Settings) (which : List Bool) (gs : List Func) → Valid m → StrictSizeRule m → reserved_at m ≡ None → TellsMayPause m s which → AllTaken m s which (λ fs. gs ≡ fs)
    → Inner m s which (record m { funcs = gs })
inner_of m s which gs valid sizes free tells taken =
    let q : Module = record m { funcs = gs } in
    let are : AreEmitted m s which (func_imports m) m.funcs gs = subst (AreEmitted m s which (func_imports m) m.funcs) (sym taken.held) taken.emitted in
    let can : CanBeEmitted m s which = record { valid = valid; sizes = sizes; few = few_written m which taken.few; tells = tells } in
    let emitted : EmittedAs m s which (with_runtime q) = functions_law m s which gs are in
    record {
      free = free;
      few = taken.few;
      funcs_fit = made_space m s which gs are sizes;
      globals_fit = globals_small m sizes;
      still_free = free;
      valid = valid_as m s which (with_runtime q) can (unreserved_is_free m free) emitted;
      sizes = sizes_as m s which (with_runtime q) can emitted;
      emitted = emitted;
      rewrites = rewrites_as m s which (with_runtime q) can (unreserved_is_free m free) emitted;
      reads = emitted_reads m s which (with_runtime q) can emitted;
    }

-- The same of values: the module of `v` is at hand as `z`, which has no reserved name, and `q` was copied around the functions that were taken.
pub taken_inner : (s : Settings) (which told : List Bool) (gs : List Func) (z v q : ModuleValue) (r : Option ReservedAt) → z ≡ v → Valid (module_of z) → StrictSizeRule (module_of v)
    → r ≡ reserved_at (module_of z) → ((x : ReservedAt) → r ≡ Some x → ⊥) → TellsMayPause (module_of v) s which → told ≡ which → AllTaken (module_of v) s told (λ fs. gs ≡ fs)
    → module_of q ≡ record (module_of z) { funcs = gs } → Inner (module_of v) s which (module_of q)
taken_inner s which told gs z v q r same valid sizes is none tells list taken made =
    let m : Module = module_of v in
    let free : reserved_at m ≡ None = ap (λ (y : ModuleValue). reserved_at (module_of y)) (sym same) ∙ sym is ∙ none_is r none in
    subst (Inner m s which) (sym (made ∙ ap (λ (y : ModuleValue). record (module_of y) { funcs = gs }) same))
    (inner_of m s which gs (subst (λ (y : ModuleValue). Valid (module_of y)) same valid) sizes free tells (subst (λ us. AllTaken m s us (λ fs. gs ≡ fs)) list taken))
