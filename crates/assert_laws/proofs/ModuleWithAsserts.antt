-- A module with asserts beside the one without, function by function.
use Rattle.std.proofs.Common.{◌≡◌, ◌∙◌, ℕ, zero, suc, ◌+◌, ◌-◌, List, [], ◌∷◌, ◌++◌, map, drop, Option, Some, None, Bool, true, false, refl, sym, ap, arith}
use Rattle.std.specs.Prelude.{not, slice_get, nat_lt, if◌then◌else◌}
use Rattle.std.specs.Option.{option_map}
use Rattle.std.proofs.lemmas.Bool.{ltb-false}
use Rattle.wa_types.specs.Modules.{defined_at, func_imports, imported, imported_func, or_empty, type_at}
use Rattle.wa_types.specs.Pausing.{Settings, has_number, is_told}
use Rattle.wa_types.specs.Runtime.{global_space, runtime_funcs, start_code, state_code, stop_code}
use Rattle.wa_types.specs.Syntax.{Code, Func, Module}
use Rattle.run_theory.specs.Growth.{Each}
use Rattle.guard_form.specs.Asserts.{asserted, asserted_reached}
use Rattle.assert_laws.specs.AssertedRoles.{AssertedModule}
use Rattle.assert_laws.specs.EmittedWithAsserts.{asserted_body, func_with_asserts, funcs_with_asserts, module_with_asserts}
use Rattle.assert_laws.proofs.AssertedPairs.{FuncToo, SameTypes, too_none, too_some}

module _ (m : Module) (s : Settings) (which : List Bool) where
  -- ---- functions

  pub found_from : (x i y : ℕ) (gs : List Func) → y ≡ x + i → slice_get (funcs_with_asserts m s which x gs) i ≡ option_map (func_with_asserts m s which y) (slice_get gs i)
  found_from x i y [] e = refl
  found_from x zero y (g ∷ gs) e = let z : x ≡ y = omega arith in ap (λ j. Some (func_with_asserts m s which j g)) z
  found_from x (suc i) y (g ∷ gs) e = found_from (suc x) i y gs (omega arith)

  pub sorts_from : (x : ℕ) (gs : List Func) → map (λ (f : Func). f.sort) (funcs_with_asserts m s which x gs) ≡ map (λ (f : Func). f.sort) gs
  sorts_from x [] = refl
  sorts_from x (g ∷ gs) = ap (λ ks. g.sort ∷ ks) (sorts_from (suc x) gs)

  drop_from : (n x : ℕ) (gs : List Func) → drop n (funcs_with_asserts m s which x gs) ≡ funcs_with_asserts m s which (x + n) (drop n gs)
  drop_from zero x gs = let z : x ≡ x + 0 = omega arith in ap (λ j. funcs_with_asserts m s which j gs) z
  drop_from (suc n) x [] = refl
  drop_from (suc n) x (g ∷ gs) = let z : suc x + n ≡ x + suc n = omega arith in drop_from n (suc x) gs ∙ ap (λ j. funcs_with_asserts m s which j (drop n gs)) z

  -- ---- functions that stay

  -- whether it is told or not
  abbrev Stays : Func → Type 0
  Stays g = (b : Bool) → asserted_body (λ c. not (has_number m s which c)) (global_space m) b g.body ≡ g.body

  all_stay : (x : ℕ) (gs : List Func) → Each Stays gs → funcs_with_asserts m s which x gs ≡ gs
  all_stay x [] h = refl
  all_stay x (g ∷ gs) h =
      ap (λ (c : Code). record g { body = c } ∷ funcs_with_asserts m s which (suc x) gs) (h.0 (is_told (slice_get which x))) ∙ ap (λ ks. g ∷ ks) (all_stay (suc x) gs h.1)

  start_stays : (n state address : ℕ) (b : Bool) → asserted_body (λ c. not (has_number m s which c)) (global_space m) b (start_code n state address) ≡ start_code n state address
  unfolding asserted asserted_reached
  start_stays n state address true = refl
  start_stays n state address false = refl

  stop_stays : (state address : ℕ) (b : Bool) → asserted_body (λ c. not (has_number m s which c)) (global_space m) b (stop_code state address) ≡ stop_code state address
  unfolding asserted asserted_reached
  stop_stays state address true = refl
  stop_stays state address false = refl

  state_stays : (state : ℕ) (b : Bool) → asserted_body (λ c. not (has_number m s which c)) (global_space m) b (state_code state) ≡ state_code state
  unfolding asserted asserted_reached
  state_stays state true = refl
  state_stays state false = refl

  -- those of the runtime
  pub runtime_stays : (x t state address : ℕ) → funcs_with_asserts m s which x (runtime_funcs t state address) ≡ runtime_funcs t state address
  runtime_stays x t state address =
      all_stay x (runtime_funcs t state address)
      (start_stays 1 state address, (stop_stays state address, (start_stays 2 state address, (stop_stays state address, (state_stays state, tt)))))

  -- ---- the module

  module _ (p : Module) where
    abbrev q : Module
    q = module_with_asserts m s which p

    pub found_there : (x : ℕ) → defined_at (module_with_asserts m s which p) x ≡ option_map (func_with_asserts m s which x) (defined_at p x)
    found_there x = by (nat_lt x (func_imports p)) refl
      where
        by : (b : Bool) → nat_lt x (func_imports p) ≡ b → (if b then None else slice_get (funcs_with_asserts m s which (func_imports p) p.funcs) (x - func_imports p))
            ≡ option_map (func_with_asserts m s which x) (if b then None else slice_get p.funcs (x - func_imports p))
        by true e = refl
        by false e = let le = ltb-false x (func_imports p) e in found_from (func_imports p) (x - func_imports p) x p.funcs (omega arith)

    pub func_too : (x : ℕ) → FuncToo (λ c. not (has_number m s which c)) (global_space m) (λ y. is_told (slice_get which y)) p (module_with_asserts m s which p) x
    func_too x = by (defined_at p x) refl
      where
        by : (o : Option Func) → defined_at p x ≡ o → FuncToo (λ c. not (has_number m s which c)) (global_space m) (λ y. is_told (slice_get which y)) p (module_with_asserts m s which p) x
        by None e = too_none e (found_there x ∙ ap (option_map (func_with_asserts m s which x)) e)
        by (Some g) e = too_some g (func_with_asserts m s which x g) e (found_there x ∙ ap (option_map (func_with_asserts m s which x)) e) refl refl

    pub same_types : SameTypes p (module_with_asserts m s which p)
    same_types = record {
      imports = refl;
      func_type = λ x. ap (λ ks. or_empty (slice_get (map (type_at p) (imported imported_func p ++ ks)) x)) (sorts_from (func_imports p) p.funcs);
      sort = λ t. refl;
      most = refl;
    }

    pub same_parts : (n t state address : ℕ) → drop n p.funcs ≡ runtime_funcs t state address → AssertedModule n p (module_with_asserts m s which p)
    same_parts n t state address e = record {
      types = refl;
      imports = refl;
      tables = refl;
      memories = refl;
      globals = refl;
      exports = refl;
      start = refl;
      elems = refl;
      segments = refl;
      runtime = drop_from n (func_imports p) p.funcs ∙ ap (funcs_with_asserts m s which (func_imports p + n)) e ∙ runtime_stays (func_imports p + n) t state address ∙ sym e;
      sorts = sorts_from (func_imports p) p.funcs;
    }
