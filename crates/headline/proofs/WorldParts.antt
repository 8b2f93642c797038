-- What the modules meet, from the parts of a rewriting.
use Rattle.headline.specs.Emitted.{Parts}
use Rattle.headline.specs.World.{World, WorldFits}
use Rattle.guard_runs.proofs.RuntimeStands.{runtime_stands}
use Rattle.guard_runs.specs.Pause.{RuntimeAt}
use Rattle.std.proofs.Common.{List, None, Option, Some, [], ap, arith, length, length-append, map, refl, subst, suc, sym, zero, ℕ, ⊎_elim, ◌++◌, ◌+◌, ◌-◌, ◌<◌, ◌∙◌, ◌∷◌, ◌≡◌}
use Rattle.std.proofs.lemmas.Bool.{cases_lt}
use Rattle.std.proofs.lemmas.List.{length-map}
use Rattle.std.proofs.lemmas.Option.{slice_get-map}
use Rattle.std.specs.List.{filter_map}
use Rattle.std.specs.Option.{option_map}
use Rattle.std.specs.Prelude.{if◌then◌else◌, slice_get}
use Rattle.run_theory.proofs.GrownSteps.{ModuleNamed, front}
use Rattle.run_theory.proofs.NamedModules.{valid_named}
use Rattle.run_theory.proofs.Runs.{lt_false, lt_true}
use Rattle.wa_model.specs.Protocol.{exports_of}
use Rattle.wa_types.specs.Base.{Base}
use Rattle.wa_types.specs.Modules.{defined_at, func_imports, func_sorts, func_type_at, imported, imported_func, or_empty, type_at}
use Rattle.wa_types.specs.Runtime.{global_space, runtime_types, with_runtime}
use Rattle.wa_types.specs.Syntax.{Func, Module}
use Rattle.wa_types.specs.declared.syntax.Import.{Import}

base_imports : (m : Module) → (Base m).imports ≡ m.imports
unfolding Base
base_imports m = refl

base_sorts : (m : Module) → func_sorts (Base m) ≡ func_sorts m
unfolding Base
base_sorts m = refl

base_type : (m : Module) (x : ℕ) → func_type_at (Base m) x ≡ func_type_at m x
unfolding Base
base_type m x = refl

base_defined : (m : Module) (x : ℕ) → defined_at (Base m) x ≡ defined_at m x
unfolding Base
base_defined m x = refl

base_count : (m : Module) → func_imports (Base m) ≡ func_imports m
unfolding Base
base_count m = refl

runtime_types_are : (m : Module) → (with_runtime m).types ≡ m.types ++ runtime_types
unfolding with_runtime
runtime_types_are m = refl

imports_by : (p m : Module) → p.imports ≡ m.imports → func_imports p ≡ func_imports m
imports_by p m e = ap (λ (xs : List Import). length (filter_map (λ (i : Import). imported_func i.kind) xs)) e

undefined_import : (p : Module) (x : ℕ) → x < func_imports p → defined_at p x ≡ None
undefined_import p x lt = ap (λ b. if b then None else slice_get p.funcs (x - func_imports p)) (lt_true x (func_imports p) lt)

-- the type of an imported function
import_type : (p m : Module) → ModuleNamed m → p.imports ≡ m.imports → p.types ≡ m.types ++ runtime_types → (i : ℕ) → i < func_imports m → func_type_at p i ≡ func_type_at m i
import_type p m named e te i lt = by_sort (slice_get (func_sorts m) i) refl
  where
    front_p : slice_get (func_sorts p) i ≡ slice_get (func_sorts m) i
    front_p =
        let z = imports_by p m e in
        front (imported imported_func p) (map (λ (f : Func). f.sort) p.funcs) i (omega arith)
        ∙ ap (λ (xs : List Import). slice_get (filter_map (λ (i : Import). imported_func i.kind) xs) i) e
        ∙ sym (front (imported imported_func m) (map (λ (f : Func). f.sort) m.funcs) i lt)

    by_sort : (o : Option ℕ) → slice_get (func_sorts m) i ≡ o → func_type_at p i ≡ func_type_at m i
    by_sort None q = ap or_empty (slice_get-map (type_at p) (func_sorts p) i ∙ ap (option_map (type_at p)) (front_p ∙ q)
        ∙ sym (slice_get-map (type_at m) (func_sorts m) i ∙ ap (option_map (type_at m)) q))
    by_sort (Some t) q =
        let lt2 = named.sorts i t q in
        let same : type_at p t ≡ type_at m t = ap (λ ts. or_empty (slice_get ts t)) te ∙ ap or_empty (front m.types runtime_types t lt2) in
        ap or_empty (slice_get-map (type_at p) (func_sorts p) i ∙ ap (option_map (type_at p)) (front_p ∙ q) ∙ ap (λ z. Some z) same
        ∙ sym (slice_get-map (type_at m) (func_sorts m) i ∙ ap (option_map (type_at m)) q))

-- a common function that isn't defined is an import
not_defined : (m : Module) (x : ℕ) → x < length (func_sorts m) → defined_at m x ≡ None → x < func_imports m
not_defined m x lt none =
    ⊎_elim (λ yes_it. yes_it)
    (λ past.
    let l1 = length-append (imported imported_func m) (map (λ (f : Func). f.sort) m.funcs) in
    let l2 = length-map m.funcs (λ (f : Func). f.sort) in
    let q : slice_get m.funcs (x - func_imports m) ≡ None = sym (ap (λ b. if b then None else slice_get m.funcs (x - func_imports m)) (lt_false x (func_imports m) past)) ∙ none in
    absurd (got_none m.funcs (x - func_imports m) (omega arith) q))
    (cases_lt x (func_imports m))
  where
    got_none : {X : Type 0} (xs : List X) (k : ℕ) → k < length xs → slice_get xs k ≡ None → ⊥
    got_none [] k lt e = omega arith
    got_none (y ∷ xs) zero lt e = cc
    got_none (y ∷ xs) (suc k) lt e = got_none xs k (omega arith) e

pub world_fits : (w : World) → Parts w → WorldFits w
world_fits w h =
    let m = w.original in
    let p = w.written in
    let rt = h.runtime in
    let same = imports_by p m rt.imports in
    let next : global_space m + 1 ≡ suc (global_space m) = omega arith in
    record {
      paired = h.paired;
      imports = same ∙ sym (base_count m);
      import_type = λ i lt. import_type p m (valid_named m h.valid) rt.imports (rt.types ∙ runtime_types_are m) i (subst (λ k. i < k) (base_count m) lt) ∙ sym (base_type m i);
      import_undefined = λ i lt. undefined_import p i (subst (λ k. i < k) (base_count m ∙ sym same) lt);
      undefined = λ x lt none. undefined_import p x (subst (λ k. x < k) (sym same) (not_defined m x (subst (λ k. x < k) h.funcs lt) (sym (base_defined m x) ∙ none)));
      runtime = subst (λ k. RuntimeAt p (exports_of p) (global_space m) k) next (runtime_stands m p rt);
      least = h.least;
      few_tests = h.few_tests;
    }
