-- Whole runs of a flat module beside those of the original.
use Rattle.std.proofs.Common.{◌≡◌, ◌∙◌, ℕ, ◌*◌, ◌≤◌, ◌<◌, List, [], ◌∷◌, ◌++◌, map, length, Option, Some, None, Bool, true, All, refl, sym, ap, subst, arith}
use Rattle.std.specs.Prelude.{slice_get}
use Rattle.std.specs.List.{sum}
use Rattle.std.proofs.lemmas.List.Elements.{All-nil, All-cons, All-head, All-tail}
use Rattle.wa_types.specs.Syntax.{Module, FuncType}
use Rattle.wa_types.specs.Base.{Base}
use Rattle.wa_types.specs.Validity.{Valid, is_empty_type, start_fits}
use Rattle.wa_types.specs.Modules.{func_sorts, func_types, func_type_at, imported, imported_global}
use Rattle.wa_model.specs.Machine.{Ran, run}
use Rattle.wa_model.specs.Store.{Store}
use Rattle.wa_model.specs.Plan.{Entry, Plan, Outcome, EntryFits, Fits}
use Rattle.wa_model.specs.Instantiation.{Opening, fails_as, opens, opening}
use Rattle.wa_model.specs.Blocking.{Note, State, Left, events_of, begun, started, all_left, blocking, on_to}
use Rattle.run_theory.specs.DeterminedRuns.{start_of}
use Rattle.run_theory.specs.Touches.{trace, seen_at, seen_note}
use Rattle.run_theory.specs.Fitting.{types_of, global_types, StoreFits}
use Rattle.run_theory.proofs.BaseValid.{base_valid}
use Rattle.run_theory.proofs.FittingNames.{func_found}
use Rattle.run_theory.proofs.FittingOpenings.{openings_fit}
use Rattle.run_laws.proofs.SpotRuns.{listed_typed, start_takes_none}
use Rattle.flat_laws.specs.FlatModule.{flat_module, Flattened}
use Rattle.flat_laws.proofs.RuntimeModules.{base_is_flattened}
use Rattle.flat_runs.specs.Beside.{first_of}
use Rattle.flat_runs.specs.FlatBlocking.{lean_next, LeanCost, StandAlike}
use Rattle.flat_runs.proofs.Matching.{Alike, follows, reaches, events_on}
use Rattle.flat_runs.proofs.Standing.{Both, b_between, b_begins, b_halts, EntryTyped, LeftTyped, both_follow}

module _ (m : Module) (which : List Bool) (plan : Plan) (os : List Outcome) (v : Valid m) (fits : Fits m plan) where
  abbrev p : Module
  p = flat_module m which

  w : Flattened (Base m) (Base p) which
  w = base_is_flattened m which v

  -- ---- where both begin

  start_same : start_of p plan os ≡ start_of m plan os
  unfolding Base
  start_same = refl

  entries_typed : (es : List Entry) → All (EntryFits m) es → All (EntryTyped (Base m) (Base p) which w plan) es
  unfolding Base
  entries_typed [] all = All-nil (EntryTyped (Base m) (Base p) which w plan)
  entries_typed (e ∷ es) all =
      let ef = All-head (EntryFits m) e es all in
      All-cons (EntryTyped (Base m) (Base p) which w plan) e es (ef.defined, listed_typed (func_type_at m e.func).params e.args ef.args.typed) (entries_typed es (All-tail (EntryFits m) e es all))

  left_typed : LeftTyped (Base m) (Base p) which w plan (all_left plan os)
  left_typed = entries_typed plan.entries fits.entries

  abbrev B : State → State → Type 0
  B = Both (Base m) (Base p) which w plan

  on_both : (s : Store) (l : Left) (es : List Entry) → StoreFits (Base m) s → LeftTyped (Base m) (Base p) which w plan l → B (on_to s l es) (on_to s l es)
  on_both s l [] so lo = b_halts refl
  on_both s l (e ∷ es) so lo = b_between so lo

  start_in : (x : ℕ) → (Base m).start ≡ Some x → x < length (func_sorts (Base m))
  start_in x e = by (slice_get (func_types (Base m)) x) refl (ap (λ o. start_fits o (func_types (Base m))) (sym e) ∙ (base_valid m v).start)
    where
      by : (o : Option FuncType) → slice_get (func_types (Base m)) x ≡ o → is_empty_type o ≡ true → x < length (func_sorts (Base m))
      by None eo h = cc
      by (Some t) eo h = (func_found (Base m) x t eo).0

  started_both : (s : Store) → StoreFits (Base m) s → (o : Option ℕ) → (Base m).start ≡ o → B (started s (all_left plan os) o).last (started s (all_left plan os) o).last
  started_both s so None e = on_both s (all_left plan os) plan.entries so left_typed
  started_both s so (Some x) e = b_begins so (start_in x e) (start_takes_none (Base m) x (base_valid m v) e) left_typed

  globals_typed : types_of plan.globals ≡ global_types (imported imported_global (Base m))
  unfolding Base
  globals_typed = listed_typed (global_types (imported imported_global m)) plan.globals fits.globals.typed

  begun_both : (o : Opening) → opening (Base m) plan.globals ≡ o → B (begun (Base m).start (all_left plan os) o).last (begun (Base m).start (all_left plan os) o).last
  begun_both (fails_as e) eo = b_halts refl
  begun_both (opens s) eo = started_both s (openings_fit (Base m) plan.globals s (base_valid m v) globals_typed eo) (Base m).start refl

  both_start : B (start_of m plan os).last (start_of p plan os).last
  both_start = subst (λ (r : Ran State Note). B (start_of m plan os).last r.last) (sym start_same) (begun_both (opening (Base m) plan.globals) refl)

  -- ---- at each cost

  abbrev first : ℕ → ℕ
  first = first_of (Base m)

  abbrev A : State → State → (i n : ℕ) → Type 0
  A = Alike (blocking (Base p) plan) (lean_next first (Base p) plan) (blocking (Base m) plan) B

  stand_alike : (i n : ℕ) → A (start_of m plan os).last (start_of p plan os).last i n → StandAlike m p plan os i n
  stand_alike i n al = record {
    events =
        let ran : List Note = (run (blocking (Base p) plan) n (start_of p plan os).last).events in
        let first_ran : List Note = (run (blocking (Base m) plan) i (start_of m plan os).last).events in
        events_on (start_of p plan os).events ran ∙ ap (λ es. events_of (start_of p plan os).events ++ es) (al.second.events ∙ al.events ∙ sym al.first.events)
        ∙ ap (λ (r : Ran State Note). events_of r.events ++ events_of first_ran) start_same ∙ sym (events_on (start_of m plan os).events first_ran);
    touches =
        let first_seen = trace (blocking (Base m) plan) seen_at seen_note i (start_of m plan os).last in
        ap (λ xs. map seen_note (start_of p plan os).events ++ xs) (al.second.touches ∙ sym al.first.touches)
        ∙ ap (λ (r : Ran State Note). map seen_note r.events ++ first_seen) start_same;
    store = al.second.store ∙ sym al.first.store;
  }

  same_first : (n : ℕ) → sum (trace (blocking (Base p) plan) (lean_next first (Base p) plan) (λ (x : Note). 0) n (start_of p plan os).last) ≡ LeanCost m p plan os n
  unfolding Base
  same_first n = refl

  pub flat_follows : (n : ℕ) → (i : ℕ) × (i ≤ LeanCost m p plan os n) × StandAlike m p plan os i n
  flat_follows n =
      let got = follows (blocking (Base p) plan) (lean_next first (Base p) plan) (blocking (Base m) plan) B (both_follow (Base m) (Base p) which w plan) n n (start_of m plan os).last
      (start_of p plan os).last both_start (omega arith) in
      (got.0, subst (λ k. got.0 ≤ k) (same_first n) got.1, stand_alike got.0 n got.2)

  pub flat_reaches : (i : ℕ) → (n : ℕ) × (n ≤ 16 * i) × StandAlike m p plan os i n
  flat_reaches i =
      let got = reaches (blocking (Base p) plan) (lean_next first (Base p) plan) (blocking (Base m) plan) B (both_follow (Base m) (Base p) which w plan) i i (start_of m plan os).last
      (start_of p plan os).last both_start (omega arith) in
      (got.0, got.1, stand_alike i got.0 got.2)
