-- The runtime's exports take what the host gives them.
use Rattle.std.proofs.Common.{arith, ◌≡◌, ℕ, suc, ◌+◌, List, [], ◌∷◌, ◌++◌, length, Some, refl, ap, ◌∙◌}
use Rattle.std.specs.Prelude.{slice_get}
use Rattle.wa_types.specs.Syntax.{FuncType, Func, Module}
use Rattle.wa_types.specs.Modules.{or_empty, type_at, func_type_at, defined_at}
use Rattle.wa_types.specs.Runtime.{func_space, global_space, runtime_types, runtime_funcs, with_runtime}
use Rattle.wa_types.specs.Validity.{Valid}
use Rattle.run_theory.proofs.FittingNames.{defined_type}
use Rattle.run_laws.specs.RuntimeParts.{RuntimeExported}
use Rattle.run_laws.specs.FittingStates.{Callable, ExportsTyped}
use Rattle.run_laws.specs.Stopping.{RuntimeIsTyped}

got_behind : (xs ys : List FuncType) (i : ℕ) → slice_get (xs ++ ys) (length xs + i) ≡ slice_get ys i
got_behind [] ys i = let z : 0 + i ≡ i = omega arith in ap (slice_get ys) z
got_behind (x ∷ xs) ys i = let z : suc (length xs) + i ≡ suc (length xs + i) = omega arith in ap (slice_get (x ∷ (xs ++ ys))) z ∙ got_behind xs ys i

grown_types : (m : Module) → (with_runtime m).types ≡ m.types ++ runtime_types
unfolding with_runtime
grown_types m = refl

module _ (m p : Module) (v : Valid p) (types : p.types ≡ (with_runtime m).types) (ex : RuntimeExported m p) where
  callable : (x k j : ℕ) (g : Func) (t : FuncType) → x ≡ func_space m + k → slice_get (runtime_funcs (length m.types) (global_space m) (global_space m + 1)) k ≡ Some g
      → g.sort ≡ length m.types + j → slice_get runtime_types j ≡ Some t → Callable p x t.params
  callable x k j g t at is sort has =
      let there : defined_at p x ≡ Some g = ap (defined_at p) at ∙ ex.functions k g is in
      let typed : func_type_at p x ≡ type_at p g.sort = defined_type p x g there in
      let row : type_at p g.sort ≡ t =
      ap (type_at p) sort ∙ ap (λ ts. or_empty (slice_get ts (length m.types + j))) (types ∙ grown_types m) ∙ ap or_empty (got_behind m.types runtime_types j ∙ has) in
      ((g, there), ap (λ (u : FuncType). u.params) (typed ∙ row))

  first_place : func_space m ≡ func_space m + 0
  first_place = omega arith

  first_type : length m.types ≡ length m.types + 0
  first_type = omega arith

  all_typed : ExportsTyped p
  all_typed = record {
    start_unwind = callable _ 0 0 _ _ (ex.start_unwind ∙ first_place) refl first_type refl;
    stop_unwind = callable _ 1 1 _ _ ex.stop_unwind refl refl refl;
    start_rewind = callable _ 2 0 _ _ ex.start_rewind refl first_type refl;
    stop_rewind = callable _ 3 1 _ _ ex.stop_rewind refl refl refl;
    get_state = callable _ 4 2 _ _ ex.get_state refl refl refl;
  }

pub runtime_typed : RuntimeIsTyped
runtime_typed m p v types ex = all_typed m p v types ex
