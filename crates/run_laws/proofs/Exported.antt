-- The exports that the host calls are the runtime's functions.
use Rattle.std.proofs.Common.{arith, ◌≡◌, ◌≤◌, ℕ, zero, suc, ◌+◌, ◌-◌, List, [], ◌∷◌, ◌++◌, length, map, take, drop, Some, None, Bool, true, false, All, Contains, refl, sym, ap, ◌∙◌, subst, eqb-true}
use Rattle.std.specs.Prelude.{slice_get, if◌then◌else◌, codes, ◌==◌, not, ◌||◌, ◌&&◌}
use Rattle.std.specs.List.{filter_map, find, list_any}
use Rattle.std.specs.Option.{option_or}
use Rattle.std.proofs.lemmas.Bool.{and_parts, both_ways, not-true, eq-eqb}
use Rattle.std.proofs.lemmas.List.{length-append, length-map, map-append, take-append-drop}
use Rattle.std.proofs.Math.Seq.{drop-append_seam}
use Rattle.std.proofs.lemmas.List.Elements.{All-nil, All-cons, All-head, All-tail}
use Rattle.std.proofs.lemmas.List.Folds.{find-append, list_any_at, list_any-append}
use Rattle.wa_types.specs.declared.syntax.Export.{Export}
use Rattle.wa_types.specs.declared.syntax.Import.{Import}
use Rattle.wa_types.specs.Syntax.{Func, Module}
use Rattle.wa_types.specs.Modules.{imported, imported_func, func_imports, defined_at}
use Rattle.wa_types.specs.Validity.{Valid, same_name, all_differ}
use Rattle.wa_types.specs.Runtime.{func_space, global_space, runtime_funcs, runtime_exports, runtime_names, with_runtime}
use Rattle.wa_model.specs.Protocol.{index_of, exported_as}
use Rattle.run_theory.specs.Quiet.{FreeOfNames}
use Rattle.run_theory.proofs.Runs.{lt_false}
use Rattle.run_laws.specs.RuntimeParts.{RuntimeExported, RuntimeIsExported, RewrittenIsExported}

same_is : (xs ys : List ℕ) → same_name xs ys ≡ true → xs ≡ ys
same_is [] [] h = refl
same_is [] (y ∷ ys) h = cc
same_is (x ∷ xs) [] h = cc
same_is (x ∷ xs) (y ∷ ys) h = let b = and_parts (x == y) (same_name xs ys) h in ap (λ z. z ∷ xs) (eqb-true x y b.0) ∙ ap (λ zs. y ∷ zs) (same_is xs ys b.1)

abbrev NoRuntimeName : Export → Type 0
NoRuntimeName e = Contains runtime_names e.name → ⊥

pub none_found : (es : List Export) (name : List ℕ) → Contains runtime_names name → All NoRuntimeName es → find (λ (e : Export). same_name e.name name) es ≡ None
none_found [] name c h = refl
none_found (e ∷ es) name c h = by_name (same_name e.name name) refl (none_found es name c (All-tail NoRuntimeName e es h)) (All-head NoRuntimeName e es h)
  where
    by_name : (t : Bool) → same_name e.name name ≡ t → find (λ (e : Export). same_name e.name name) es ≡ None → (Contains runtime_names e.name → ⊥)
        → (if t then Some e else find (λ (e : Export). same_name e.name name) es) ≡ None
    by_name true q ih differs = absurd (differs (subst (λ n. Contains runtime_names n) (sym (same_is e.name name q)) c))
    by_name false q ih differs = ih

got_behind : {X : Type 0} (xs ys : List X) (i : ℕ) → slice_get (xs ++ ys) (length xs + i) ≡ slice_get ys i
got_behind [] ys i = let z : 0 + i ≡ i = omega arith in ap (slice_get ys) z
got_behind (x ∷ xs) ys i = let z : suc (length xs) + i ≡ suc (length xs + i) = omega arith in ap (slice_get (x ∷ (xs ++ ys))) z ∙ got_behind xs ys i

space_is : (m : Module) → func_space m ≡ func_imports m + length m.funcs
space_is m = length-append (imported imported_func m) (map (λ (f : Func). f.sort) m.funcs) ∙ ap (λ n. func_imports m + n) (length-map m.funcs (λ (f : Func). f.sort))

-- a module with the imports of the original, as many functions before the runtime's, and its exports
module _ (m p : Module) (fs : List Func) (free : FreeOfNames m) (imports : func_imports p ≡ func_imports m) (many : length fs ≡ length m.funcs)
    (funcs : p.funcs ≡ fs ++ runtime_funcs (length m.types) (global_space m) (global_space m + 1)) (exports : p.exports ≡ m.exports ++ runtime_exports (func_space m)) where
  named : (name : List ℕ) (e : Export) → Contains runtime_names name → find (λ (e : Export). same_name e.name name) (runtime_exports (func_space m)) ≡ Some e → exported_as p name ≡ e.index
  named name e c is =
      ap (λ xs. index_of (find (λ (e : Export). same_name e.name name) xs)) exports
      ∙ ap index_of (find-append (λ (e : Export). same_name e.name name) m.exports (runtime_exports (func_space m)))
      ∙ ap (λ o. index_of (option_or o (find (λ (e : Export). same_name e.name name) (runtime_exports (func_space m))))) (none_found m.exports name c free)
      ∙ ap index_of is

  found : (i : ℕ) (f : Func) → slice_get (runtime_funcs (length m.types) (global_space m) (global_space m + 1)) i ≡ Some f → defined_at p (func_space m + i) ≡ Some f
  found i f is =
      let space = space_is m in
      let behind : func_imports p ≤ func_space m + i = omega (arith, space, imports) in
      let place : func_space m + i - func_imports p ≡ length fs + i = omega (arith, space, imports, many) in
      ap (λ b. if b then None else slice_get p.funcs (func_space m + i - func_imports p)) (lt_false (func_space m + i) (func_imports p) behind)
      ∙ ap (slice_get p.funcs) place ∙ ap (λ xs. slice_get xs (length fs + i)) funcs ∙ got_behind fs (runtime_funcs (length m.types) (global_space m) (global_space m + 1)) i ∙ is

  exported : RuntimeExported m p
  exported = record {
    start_unwind = named (codes "asyncify_start_unwind") _ (0, omega arith, refl) refl;
    stop_unwind = named (codes "asyncify_stop_unwind") _ (1, omega arith, refl) refl;
    start_rewind = named (codes "asyncify_start_rewind") _ (2, omega arith, refl) refl;
    stop_rewind = named (codes "asyncify_stop_rewind") _ (3, omega arith, refl) refl;
    get_state = named (codes "asyncify_get_state") _ (4, omega arith, refl) refl;
    functions = found;
  }

pub runtime_exported : RuntimeIsExported
unfolding with_runtime
runtime_exported m free = exported m (with_runtime m) m.funcs free refl refl refl refl

grown_funcs : (m : Module) → (with_runtime m).funcs ≡ m.funcs ++ runtime_funcs (length m.types) (global_space m) (global_space m + 1)
unfolding with_runtime
grown_funcs m = refl

grown_exports : (m : Module) → (with_runtime m).exports ≡ m.exports ++ runtime_exports (func_space m)
unfolding with_runtime
grown_exports m = refl

-- what is left behind so many is not empty: so many are there
taken_length : {X : Type 0} (n : ℕ) (xs : List X) (y : X) (ys : List X) → drop n xs ≡ y ∷ ys → length (take n xs) ≡ n
taken_length zero xs y ys e = refl
taken_length (suc n) [] y ys e = cc
taken_length (suc n) (x ∷ xs) y ys e = ap suc (taken_length n xs y ys e)

-- ---- in a valid module the original's exports have other names

same_self : (xs : List ℕ) → same_name xs xs ≡ true
same_self [] = refl
same_self (x ∷ xs) = ap (λ b. b && same_name xs xs) (eq-eqb x x refl) ∙ same_self xs

free_names : (first : ℕ) (es : List Export) → all_differ (map (λ (e : Export). e.name) (es ++ runtime_exports first)) ≡ true → All NoRuntimeName es
free_names first [] h = All-nil NoRuntimeName
free_names first (e ∷ es) h =
    let names : List (List ℕ) = map (λ (e : Export). e.name) (es ++ runtime_exports first) in
    let b = and_parts (not (list_any (same_name e.name) names)) (all_differ names) h in
    All-cons NoRuntimeName e es (λ c. clash c (not-true (list_any (same_name e.name) names) b.0)) (free_names first es b.1)
  where
    or_true : (b : Bool) → (b || true) ≡ true
    or_true true = refl
    or_true false = refl

    clash : Contains runtime_names e.name → list_any (same_name e.name) (map (λ (e : Export). e.name) (es ++ runtime_exports first)) ≡ false → ⊥
    clash c none =
        let there : list_any (same_name e.name) runtime_names ≡ true = list_any_at (same_name e.name) runtime_names c.0 e.name c.1 (ap (same_name e.name) c.2 ∙ same_self e.name) in
        let split =
        ap (list_any (same_name e.name)) (map-append (λ (e : Export). e.name) es (runtime_exports first)) ∙ list_any-append (same_name e.name) (map (λ (e : Export). e.name) es) runtime_names in
        let found : list_any (same_name e.name) (map (λ (e : Export). e.name) (es ++ runtime_exports first)) ≡ true =
        split ∙ ap (λ b. list_any (same_name e.name) (map (λ (e : Export). e.name) es) || b) there ∙ or_true (list_any (same_name e.name) (map (λ (e : Export). e.name) es)) in
        both_ways (list_any (same_name e.name) (map (λ (e : Export). e.name) (es ++ runtime_exports first))) none found

-- a valid module with the original's exports and the runtime's
pub exports_free : (m p : Module) → p.exports ≡ (with_runtime m).exports → Valid p → FreeOfNames m
exports_free m p exports valid = free_names (func_space m) m.exports (ap (λ es. all_differ (map (λ (e : Export). e.name) es)) (sym (exports ∙ grown_exports m)) ∙ valid.names)

-- and one that has the runtime's functions behind the original's
pub parts_exported : (m p : Module) → p.imports ≡ m.imports → p.exports ≡ (with_runtime m).exports → drop (length m.funcs) p.funcs ≡ drop (length m.funcs) (with_runtime m).funcs → Valid p
    → RuntimeExported m p
parts_exported m p imports exports runtime valid =
    let more : List Func = runtime_funcs (length m.types) (global_space m) (global_space m + 1) in
    let behind : drop (length m.funcs) p.funcs ≡ more = runtime ∙ ap (drop (length m.funcs)) (grown_funcs m) ∙ drop-append_seam m.funcs more in
    let same : func_imports p ≡ func_imports m = ap (λ xs. length (filter_map (λ (i : Import). imported_func i.kind) xs)) imports in
    let funcs : p.funcs ≡ take (length m.funcs) p.funcs ++ more = sym (take-append-drop (length m.funcs) p.funcs) ∙ ap (λ xs. take (length m.funcs) p.funcs ++ xs) behind in
    exported m p (take (length m.funcs) p.funcs) (exports_free m p exports valid) same (taken_length (length m.funcs) p.funcs _ _ behind) funcs (exports ∙ grown_exports m)

pub rewritten_exported : RewrittenIsExported
rewritten_exported m s p r = let parts = r.parts in parts_exported m p parts.imports parts.exports parts.runtime parts.valid_rewritten
