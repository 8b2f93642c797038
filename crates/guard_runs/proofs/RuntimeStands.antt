-- The runtime's functions of a rewritten module are those that the host calls.
use Rattle.std.proofs.Common.{◌≡◌, ℕ, zero, suc, ◌+◌, ◌-◌, ◌≤◌, List, [], ◌∷◌, ◌++◌, length, drop, map, Option, Some, None, false, refl, ap, ◌∙◌, arith, length-append}
use Rattle.std.specs.Prelude.{codes, nat_lt, slice_get, if◌then◌else◌}
use Rattle.std.specs.List.{find, filter_map}
use Rattle.std.specs.Option.{option_map, option_or}
use Rattle.std.proofs.lemmas.List.{length-map}
use Rattle.std.proofs.lemmas.List.Folds.{find-append}
use Rattle.std.proofs.lemmas.Option.{slice_get-map}
use Rattle.wa_types.specs.declared.syntax.Export.{Export}
use Rattle.wa_types.specs.declared.syntax.Import.{Import}
use Rattle.wa_types.specs.Syntax.{FuncType, Func, Module}
use Rattle.wa_types.specs.Modules.{imported_func, imported, func_sorts, func_imports, or_empty, type_at, func_types, defined_at}
use Rattle.wa_types.specs.Validity.{same_name}
use Rattle.wa_types.specs.Runtime.{func_space, global_space, runtime_types, runtime_funcs, runtime_exports, start_code, stop_code, state_code, runtime_func, with_runtime}
use Rattle.wa_model.specs.Step.{result_count}
use Rattle.wa_model.specs.Protocol.{index_of, exported_as, exports_of}
use Rattle.guard_runs.specs.Pause.{RuntimeAt}
use Rattle.guard_runs.specs.RuntimeParts.{NoExport, HasRuntime, RuntimeStands}

slice_past : {A : Type 0} → (xs ys : List A) (k : ℕ) → slice_get (xs ++ ys) (length xs + k) ≡ slice_get ys k
slice_past [] ys k = let z : 0 + k ≡ k = omega arith in ap (slice_get ys) z
slice_past (x ∷ xs) ys k = let z : length (x ∷ xs) + k ≡ suc (length xs + k) = omega arith in ap (slice_get (x ∷ xs ++ ys)) z ∙ slice_past xs ys k

slice_drop : {A : Type 0} → (n : ℕ) (xs : List A) (k : ℕ) → slice_get xs (n + k) ≡ slice_get (drop n xs) k
slice_drop zero xs k = let z : 0 + k ≡ k = omega arith in ap (slice_get xs) z
slice_drop (suc n) [] k = refl
slice_drop (suc n) (x ∷ xs) k = let z : suc n + k ≡ suc (n + k) = omega arith in ap (slice_get (x ∷ xs)) z ∙ slice_drop n xs k

drop_front : {A : Type 0} → (xs ys : List A) → drop (length xs) (xs ++ ys) ≡ ys
drop_front [] ys = refl
drop_front (x ∷ xs) ys = drop_front xs ys

lt_false : (a b : ℕ) → b ≤ a → nat_lt a b ≡ false
lt_false a b h = grind arith

module _ (m p : Module) (h : HasRuntime m p) where
  abbrev state : ℕ
  state = global_space m

  abbrev parts : List Func
  parts = runtime_funcs (length m.types) (global_space m) (global_space m + 1)

  imports_same : func_imports p ≡ func_imports m
  imports_same = ap (λ (xs : List Import). length (filter_map (λ (i : Import). imported_func i.kind) xs)) h.imports

  space_is : func_space m ≡ func_imports m + length m.funcs
  space_is = length-append (imported imported_func m) (map (λ (f : Func). f.sort) m.funcs) ∙ ap (λ n. func_imports m + n) (length-map m.funcs (λ (f : Func). f.sort))

  found_func : (k : ℕ) → slice_get p.funcs (length m.funcs + k) ≡ slice_get parts k
  unfolding with_runtime
  found_func k = slice_drop (length m.funcs) p.funcs k ∙ ap (λ xs. slice_get xs k) (h.runtime ∙ drop_front m.funcs parts)

  stands : (k : ℕ) (f : Func) → slice_get parts k ≡ Some f → defined_at p (func_space m + k) ≡ Some f
  stands k f e =
      let s = space_is in
      let i = imports_same in
      let past : nat_lt (func_space m + k) (func_imports p) ≡ false = lt_false (func_space m + k) (func_imports p) (omega arith) in
      let at : func_space m + k - func_imports p ≡ length m.funcs + k = omega arith in
      ap (λ b. if b then None else slice_get p.funcs (func_space m + k - func_imports p)) past ∙ ap (slice_get p.funcs) at ∙ found_func k ∙ e

  exported : (name : List ℕ) (k : ℕ) → NoExport m name → index_of (find (λ (e : Export). same_name e.name name) (runtime_exports (func_space m))) ≡ k → exported_as p name ≡ k
  unfolding with_runtime
  exported name k none e =
      ap (λ xs. index_of (find (λ (e : Export). same_name e.name name) xs)) h.exports
      ∙ ap index_of (find-append (λ (e : Export). same_name e.name name) m.exports (runtime_exports (func_space m)))
      ∙ ap (λ o. index_of (option_or o (find (λ (e : Export). same_name e.name name) (runtime_exports (func_space m))))) none
      ∙ e

  one_result : result_count p (func_space m + 4) ≡ 1
  unfolding with_runtime
  one_result =
      let i = imports_same in
      let s = space_is in
      let at : func_space m + 4 ≡ length (imported imported_func p) + (length m.funcs + 4) = omega arith in
      let sort : slice_get (func_sorts p) (func_space m + 4) ≡ Some (length m.types + 2) =
      ap (slice_get (func_sorts p)) at
      ∙ slice_past (imported imported_func p) (map (λ (f : Func). f.sort) p.funcs) (length m.funcs + 4)
      ∙ slice_get-map (λ (f : Func). f.sort) p.funcs (length m.funcs + 4)
      ∙ ap (option_map (λ (f : Func). f.sort)) (found_func 4) in
      let ty : slice_get p.types (length m.types + 2) ≡ slice_get runtime_types 2 = ap (λ xs. slice_get xs (length m.types + 2)) h.types ∙ slice_past m.types runtime_types 2 in
      let found : slice_get (func_types p) (func_space m + 4)
      ≡ Some (type_at p (length m.types + 2)) = slice_get-map (type_at p) (func_sorts p) (func_space m + 4) ∙ ap (option_map (type_at p)) sort in
      ap (λ (o : Option FuncType). length (or_empty o).results) found ∙ ap (λ (o : Option FuncType). length (or_empty o).results) ty

  pub stands_all : RuntimeAt p (exports_of p) (global_space m) (global_space m + 1)
  stands_all =
      let z : func_space m ≡ func_space m + 0 = omega arith in
      let x1 = exported (codes "asyncify_start_unwind") (func_space m + 0) h.start_unwind z in
      let x2 = exported (codes "asyncify_stop_unwind") (func_space m + 1) h.stop_unwind refl in
      let x3 = exported (codes "asyncify_start_rewind") (func_space m + 2) h.start_rewind refl in
      let x4 = exported (codes "asyncify_stop_rewind") (func_space m + 3) h.stop_rewind refl in
      let x5 = exported (codes "asyncify_get_state") (func_space m + 4) h.get_state refl in
      record {
        sort = length m.types;
        start_unwind = ap (defined_at p) x1 ∙ stands 0 (runtime_func (length m.types) (start_code 1 state (state + 1))) refl;
        start_rewind = ap (defined_at p) x3 ∙ stands 2 (runtime_func (length m.types) (start_code 2 state (state + 1))) refl;
        stop_sort = length m.types + 1;
        stop_unwind = ap (defined_at p) x2 ∙ stands 1 (runtime_func (length m.types + 1) (stop_code state (state + 1))) refl;
        stop_rewind = ap (defined_at p) x4 ∙ stands 3 (runtime_func (length m.types + 1) (stop_code state (state + 1))) refl;
        state_sort = length m.types + 2;
        get_state = ap (defined_at p) x5 ∙ stands 4 (runtime_func (length m.types + 2) (state_code state)) refl;
        tells = ap (result_count p) x5 ∙ one_result;
      }

pub runtime_stands : RuntimeStands
runtime_stands m p h = stands_all m p h
