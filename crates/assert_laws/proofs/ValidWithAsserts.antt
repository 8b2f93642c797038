-- A module with asserts is valid, and its numbers are in range, where those of the one without are.
use Rattle.std.proofs.Common.{◌≡◌, ◌∙◌, ℕ, suc, ◌+◌, ◌<◌, ◌^◌, List, [], ◌∷◌, ◌++◌, length, map, Option, Some, None, Bool, true, false, All, refl, sym, ap, subst, arith}
use Rattle.std.specs.Prelude.{not, slice_get, if◌then◌else◌}
use Rattle.std.specs.List.{filter_map, flat_map}
use Rattle.std.specs.Option.{option_to_list}
use Rattle.std.proofs.lemmas.List.Elements.{All-cons, All-head, All-nil, All-tail}
use Rattle.wa_types.specs.declared.syntax.Import.{Import}
use Rattle.wa_types.specs.declared.syntax.Space.TheVariants.{Func as a_func}
use Rattle.wa_types.specs.declared.values.ValType.TheVariants.{I32}
use Rattle.wa_types.specs.Modules.{all_globals, around, func_imports, func_sorts, func_types, global_type, imported, imported_func, imported_global, type_at}
use Rattle.wa_types.specs.Pausing.{Callee, Settings, callee, has_number, is_told}
use Rattle.wa_types.specs.Pruned.{is_last}
use Rattle.wa_types.specs.Runtime.{global_space, with_runtime}
use Rattle.wa_types.specs.Sizes.{CodeFits, FuncFits, WellFormed}
use Rattle.wa_types.specs.Syntax.{Code, branch, done, nest, plain, Elem, Func, FuncType, Module}
use Rattle.wa_types.specs.Typing.{Around, Typed, listed}
use Rattle.wa_types.specs.Validity.{Valid, all_below, exported, start_fits}
use Rattle.guard_form.specs.Asserts.{any_callee, assert_code, asserted, asserted_reached, tested_behind}
use Rattle.guard_form.proofs.Growing.{asserted_typed, reached_typed}
use Rattle.slim_laws.proofs.SlimModules.{mapped}
use Rattle.assert_laws.specs.EmittedWithAsserts.{asserted_body, func_with_asserts, funcs_with_asserts, module_with_asserts}
use Rattle.assert_laws.proofs.ModuleWithAsserts.{found_from, sorts_from}

-- ---- the global of the state

-- the globals are those of the original and the runtime's
pub globals_are : (m p0 : Module) → p0.imports ≡ m.imports → p0.globals ≡ (with_runtime m).globals → all_globals p0 ≡ all_globals (with_runtime m)
unfolding with_runtime
globals_are m p0 ei eg =
    ap (λ is. filter_map (λ (i : Import). imported_global i.kind) is ++ map global_type p0.globals) ei
    ∙ ap (λ gs. filter_map (λ (i : Import). imported_global i.kind) m.imports ++ map global_type gs) eg

-- ---- numbers in range

module _ (st : ℕ) (small : st < 2 ^ 32) where
  behind_fits : (tests : Callee → Bool) (o : Option Callee) (rest : Code) → CodeFits rest → CodeFits (tested_behind tests st o rest)
  behind_fits tests None rest h = h
  behind_fits tests (Some x) rest h = by (tests x)
    where
      one : 1 < 2 ^ 32
      one = omega arith

      by : (b : Bool) → CodeFits (if b then assert_code st rest else rest)
      by true = (small, (one, (tt, ((tt, tt), tt, h))))
      by false = h

  asserted_fits : (tests : Callee → Bool) (c : Code) → CodeFits c → CodeFits (asserted tests st c)
  unfolding asserted
  asserted_fits tests done h = tt
  asserted_fits tests (plain p rest) h = (h.0, behind_fits tests (callee p) (asserted tests st rest) (asserted_fits tests rest h.1))
  asserted_fits tests (nest s r body rest) h = (asserted_fits tests body h.0, asserted_fits tests rest h.1)
  asserted_fits tests (branch r a b rest) h = (asserted_fits tests a h.0, asserted_fits tests b h.1, asserted_fits tests rest h.2)

  reached_fits : (c : Code) → CodeFits c → CodeFits (asserted_reached st c)
  unfolding asserted_reached
  reached_fits done h = tt
  reached_fits (plain p rest) h = (h.0, by (is_last p) (reached_fits rest h.1))
    where
      by : (b : Bool) → CodeFits (asserted_reached st rest) → CodeFits (if b then rest else tested_behind any_callee st (callee p) (asserted_reached st rest))
      by true ih = h.1
      by false ih = behind_fits any_callee (callee p) (asserted_reached st rest) ih
  reached_fits (nest s r body rest) h = (reached_fits body h.0, reached_fits rest h.1)
  reached_fits (branch r a b rest) h = (reached_fits a h.0, reached_fits b h.1, reached_fits rest h.2)

  body_fits : (tests : Callee → Bool) (b : Bool) (c : Code) → CodeFits c → CodeFits (asserted_body tests st b c)
  body_fits tests true c h = asserted_fits tests c h
  body_fits tests false c h = reached_fits c h

module _ (m : Module) (s : Settings) (which : List Bool) (p0 : Module) where
  abbrev tests : Callee → Bool
  tests = λ c. not (has_number m s which c)

  abbrev p : Module
  p = module_with_asserts m s which p0

  funcs_fit : global_space m < 2 ^ 32 → (x : ℕ) (gs : List Func) → All FuncFits gs → All FuncFits (funcs_with_asserts m s which x gs)
  funcs_fit small x [] h = All-nil FuncFits
  funcs_fit small x (g ∷ gs) h =
      let f = All-head FuncFits g gs h in
      All-cons FuncFits (func_with_asserts m s which x g) (funcs_with_asserts m s which (suc x) gs)
      (record { sort = f.sort; locals = f.locals; body = body_fits (global_space m) small (λ c. not (has_number m s which c)) (is_told (slice_get which x)) g.body f.body })
      (funcs_fit small (suc x) gs (All-tail FuncFits g gs h))

  -- ITS NUMBERS ARE IN RANGE
  pub well_formed_too : global_space m < 2 ^ 32 → WellFormed p0 → WellFormed (module_with_asserts m s which p0)
  well_formed_too small w = record {
    imports = w.imports;
    funcs = funcs_fit small (func_imports p0) p0.funcs w.funcs;
    tables = w.tables;
    memories = w.memories;
    globals = w.globals;
    exports = w.exports;
    start = w.start;
    elems = w.elems;
    segments = w.segments;
    customs = w.customs;
  }

  -- ---- validity

  pub same_sorts : func_sorts (module_with_asserts m s which p0) ≡ func_sorts p0
  same_sorts = ap (λ ks. imported imported_func p0 ++ ks) (sorts_from m s which (func_imports p0) p0.funcs)

  same_types : func_types p ≡ func_types p0
  same_types = ap (map (type_at p0)) same_sorts

  -- around a body of the one without, with these functions' types
  abbrev around_with : Func → List FuncType → Around
  around_with g fs = let c : Around = around p0 g in record { types = c.types; funcs = fs; table = c.table; memory = c.memory; globals = c.globals; locals = c.locals; result = c.result }

  module _ (state : slice_get (all_globals p0) (global_space m) ≡ Some (record { ty = I32; mutable = true })) (v0 : Valid p0) where
    body_typed : (x : ℕ) (g : Func) → Typed (around p0 g) g.body → Typed (around p (func_with_asserts m s which x g)) (func_with_asserts m s which x g).body
    body_typed x g h =
        subst (λ fs. Typed (around_with g fs) (asserted_body (λ c. not (has_number m s which c)) (global_space m) (is_told (slice_get which x)) g.body)) (sym same_types) (by (is_told (slice_get which x)))
      where
        by : (b : Bool) → Typed (around p0 g) (asserted_body (λ c. not (has_number m s which c)) (global_space m) b g.body)
        by true = asserted_typed (around p0 g) (λ c. not (has_number m s which c)) (global_space m) state ((around p0 g).result ∷ []) g.body (listed (around p0 g).result) [] h
        by false = reached_typed (around p0 g) (global_space m) state ((around p0 g).result ∷ []) g.body (listed (around p0 g).result) [] h

    each_body : (i : ℕ) (g : Func) → slice_get p.funcs i ≡ Some g → Typed (around p g) g.body
    each_body i g e =
        let f = mapped (func_with_asserts m s which (func_imports p0 + i)) (slice_get p0.funcs i) g (sym (found_from m s which (func_imports p0) i (func_imports p0 + i) p0.funcs refl) ∙ e) in
        subst (λ (h : Func). Typed (around p h) h.body) f.2 (body_typed (func_imports p0 + i) f.0 (v0.bodies i f.0 f.1))

    -- IT IS VALID
    pub valid_too : Valid (module_with_asserts m s which p0)
    valid_too = record {
      types = v0.types;
      sorts = ap (all_below (length p0.types)) same_sorts ∙ v0.sorts;
      bodies = each_body;
      limits = v0.limits;
      single = v0.single;
      constants = v0.constants;
      globals = v0.globals;
      tables = v0.tables;
      memories = v0.memories;
      funcs = ap (λ sorts. all_below (length sorts) (exported a_func p0 ++ option_to_list p0.start ++ flat_map (λ (e : Elem). e.funcs) p0.elems)) same_sorts ∙ v0.funcs;
      start = ap (start_fits p0.start) same_types ∙ v0.start;
      names = v0.names;
    }
