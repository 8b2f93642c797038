-- Modules that are emitted of one differ in code alone.
use Rattle.std.proofs.Common.{◌≡◌, ◌∙◌, ℕ, suc, ◌+◌, List, [], ◌∷◌, ◌++◌, length, map, Bool, true, false, refl, sym, ap}
use Rattle.std.specs.Prelude.{slice_get, if◌then◌else◌}
use Rattle.std.proofs.lemmas.List.{map-append}
use Rattle.wa_types.specs.Modules.{func_imports, imported, imported_func}
use Rattle.wa_types.specs.Pausing.{Policy, Settings, is_told, save_all, save_live}
use Rattle.wa_types.specs.Runtime.{global_space, runtime_exports, runtime_funcs, with_runtime}
use Rattle.wa_types.specs.Syntax.{done, Func, Module}
use Rattle.emitted_form.specs.Emitted.{layout_codes}
use Rattle.emitted_form.specs.EmittedBy.{FrameCode, asyncified_by, func_by, funcs_by, written_by}
use Rattle.emitted_form.specs.EmittedAs.{EmittedUnder}
use Rattle.emitted_form.specs.LiveParts.{live_codes}
use Rattle.emitted_form.specs.PolicyLaws.{EmittedDifferInCode, without_code}

abbrev bare : Func → Func
bare f = record f { body = done }

abbrev sort_of : Func → ℕ
sort_of f = f.sort

bare_sorts : (fs : List Func) → map sort_of (map bare fs) ≡ map sort_of fs
bare_sorts [] = refl
bare_sorts (f ∷ fs) = ap (λ ns. f.sort ∷ ns) (bare_sorts fs)

module _ (m : Module) where
  -- the module with these functions, whose sorts and the runtime's behind them place its exports
  abbrev whole : (sorts : List ℕ) → List Func → Module
  whole sorts fs = record (with_runtime m) { exports = m.exports ++ runtime_exports (length (imported imported_func m ++ sorts)); funcs = fs }

  same_code : (gs hs : List Func) → map bare gs ≡ map bare hs → without_code (with_runtime (record m { funcs = gs })) ≡ without_code (with_runtime (record m { funcs = hs }))
  unfolding with_runtime
  same_code gs hs e =
      let rs : List Func = runtime_funcs (length m.types) (global_space m) (global_space m + 1) in
      ap (λ sorts. whole sorts (map bare (gs ++ rs))) (sym (bare_sorts gs) ∙ ap (map sort_of) e ∙ bare_sorts hs)
      ∙ ap (whole (map sort_of hs)) (map-append bare gs rs ∙ ap (λ fs. fs ++ map bare rs) e ∙ sym (map-append bare hs rs))

  module _ (s : Settings) (which : List Bool) (c d : (index : ℕ) → Func → FrameCode) where
    one_func : (x : ℕ) (f : Func) → bare (func_by m s which c x f) ≡ bare (func_by m s which d x f)
    one_func x f = by (is_told (slice_get which x))
      where
        by : (b : Bool) → bare (if b then written_by m s which c x f else f) ≡ bare (if b then written_by m s which d x f else f)
        by true = refl
        by false = refl

    each_func : (x : ℕ) (fs : List Func) → map bare (funcs_by m s which c x fs) ≡ map bare (funcs_by m s which d x fs)
    each_func x [] = refl
    each_func x (f ∷ fs) =
        ap (λ k. k ∷ map bare (funcs_by m s which c (suc x) fs)) (one_func x f) ∙ ap (λ ks. bare (func_by m s which d x f) ∷ ks) (each_func (suc x) fs)

    same_module : without_code (asyncified_by m s which c) ≡ without_code (asyncified_by m s which d)
    same_module = same_code (funcs_by m s which c (func_imports m) m.funcs) (funcs_by m s which d (func_imports m) m.funcs) (each_func (func_imports m) m.funcs)

pub code_alone : EmittedDifferInCode
code_alone m s which p q = by s.policy
  where
    by : (y : Policy) → EmittedUnder y m s which p → EmittedUnder y m s which q → without_code p ≡ without_code q
    by save_all a b =
        ap without_code a.is ∙ same_module m s which (layout_codes m s which a.pieces) (layout_codes m s which b.pieces) ∙ sym (ap without_code b.is)
    by save_live a b =
        ap without_code a.is ∙ same_module m s which (live_codes a.pieces a.parts) (live_codes b.pieces b.parts) ∙ sym (ap without_code b.is)
