-- A run of a valid module with blocking imports stops only where all is over.
use Rattle.std.proofs.Common.{arith, ◌≡◌, ◌<◌, ℕ, List, [], ◌∷◌, length, Option, Some, None, Bool, true, false, cond, ltb, All, refl, sym, ap, ◌∙◌, subst}
use Rattle.std.specs.Prelude.{nat_lt, if◌then◌else◌}
use Rattle.std.specs.Option.{option_to_list}
use Rattle.std.proofs.lemmas.Bool.{ltb-false}
use Rattle.std.proofs.lemmas.List.Elements.{All-nil, All-cons, All-head, All-tail, All-weaker}
use Rattle.wa_types.specs.declared.values.ValType.{ValType}
use Rattle.wa_types.specs.declared.values.Value.{Value}
use Rattle.wa_types.specs.Base.{Base}
use Rattle.wa_types.specs.Syntax.{FuncType, Func, Module}
use Rattle.wa_types.specs.Validity.{Valid}
use Rattle.wa_types.specs.Modules.{imported, imported_global, func_imports, func_sorts, func_type_at, defined_at}
use Rattle.wa_model.specs.declared.answers.Said.{Said}
use Rattle.wa_model.specs.declared.answers.Said.TheVariants as S
use Rattle.wa_model.specs.declared.events.End.{End}
use Rattle.wa_model.specs.declared.events.End.TheVariants.{Trapped}
use Rattle.wa_model.specs.Outside.{Answer, answered, returned, ended}
use Rattle.wa_model.specs.Machine.{Turn, stops}
use Rattle.wa_model.specs.Store.{Store}
use Rattle.wa_model.specs.Step.{Next, steps, asks, returns, traps, stuck, step}
use Rattle.wa_model.specs.Plan.{Entry, EntryFits, Plan, Outcome, given, refused}
use Rattle.wa_model.specs.Instantiation.{Opening, fails_as, opens, opening}
use Rattle.wa_model.specs.Blocking.{Note, note, no_store, value_of_results, fault_of, pause_of, poked, done_notes, import_traps, Task, the_start, an_entry, Left, with_outcomes, Asker, inside, outermost, store_at, in_start, stack_at, call_note, State, between, begins, runs, halts, on_to, next_entry, task_back, go_on, tested, asked, by_step, enters, enter_next, start_called, blocking, all_left, started, begun, continued, Blocking}
use Rattle.run_theory.specs.Fitting.{types_of, results_of, global_types, StoreFits, CallersFit, WaitingFits, NextFits}
use Rattle.run_theory.specs.Growth.{Each}
use Rattle.run_theory.proofs.Invariants.{TurnKeeps, RanKeeps, after_keeps, leads_keeps}
use Rattle.run_theory.proofs.FittingNames.{not_defined, results_are}
use Rattle.run_theory.proofs.FittingSteps.{steps_fit}
use Rattle.run_theory.proofs.FittingRuns.{calls_fit, answers_fit}
use Rattle.run_theory.proofs.FittingOpenings.{openings_fit}
use Rattle.run_theory.proofs.NamedModules.{valid_instance}
use Rattle.run_theory.proofs.BaseValid.{base_valid}
use Rattle.run_laws.proofs.SpotRuns.{said_typed, or_else_first, listed_typed, start_takes_none, base_globals, base_type, base_defined}
use Rattle.run_laws.specs.FittingStates.{EntryTyped, LeftTyped, SomeLeft, StateFits, SaidTyped}
use Rattle.run_laws.specs.Stopping.{BlockingStatesStop, BlockingStatesStay, BlockingRunsFit, BlockingStopsOver}

module _ (b : Module) (v : Valid b) (plan : Plan) where
  abbrev AnyNote : Note → Type 0
  AnyNote x = Unit {0}

  any_notes : (xs : List Note) → All AnyNote xs
  any_notes [] = All-nil AnyNote
  any_notes (x ∷ xs) = All-cons AnyNote x xs tt (any_notes xs)

  abbrev TurnFits : Turn State Note → Type 0
  TurnFits t = TurnKeeps (blocking b plan) (StateFits b) AnyNote t

  abbrev AskerFits : ℕ → Asker → Type 0
  AskerFits import (inside task c) = (outs : List ValType) × WaitingFits b outs import c
  AskerFits import (outermost s) = StoreFits b s

  on_fits : (s : Store) (l : Left) (es : List Entry) → es ≡ l.entries → StoreFits b s → LeftTyped b l → StateFits b (on_to s l es)
  on_fits s l [] e so h = tt
  on_fits s l (x ∷ es) e so h = (so, subst SomeLeft e tt, h)

  back_fits : (k : ℕ) (task : Task) (results : List Value) (s : Store) (l : Left) → StoreFits b s → LeftTyped b l → TurnFits (task_back k task results s l)
  back_fits k the_start results s l so h = (any_notes (done_notes s l.entries), on_fits s l l.entries refl so h)
  back_fits k (an_entry e) results s l so h = (any_notes (note (returned l.number (value_of_results results)) s ∷ done_notes s l.entries), on_fits s (next_entry l) l.entries refl so h)

  asker_store : (import : ℕ) (who : Asker) → AskerFits import who → StoreFits b (store_at who)
  asker_store import (inside task c) w = w.1.store
  asker_store import (outermost s) w = w

  poked_fits : (s : Store) (a : Answer) → StoreFits b s → StoreFits b (poked s a.pokes)
  poked_fits s a so = record { globals = so.globals; table = so.table }

  go_on_fits : (k import : ℕ) (x : Note) (said : Said) (s : Store) (l : Left) (who : Asker) → StoreFits b s → SaidTyped b import said
      → LeftTyped b l → AskerFits import who → TurnFits (go_on k x said s l who)
  go_on_fits k import x (S.Value value) s l (inside task c) so e h w =
      (any_notes (x ∷ note (answered (S.Value value)) s ∷ []), (w.0, answers_fit b w.0 c s (option_to_list value) so (subst (λ ts. CallersFit b w.0 ts (c.here ∷ c.under)) (sym e) w.1.waits), h))
  go_on_fits k import x (S.Value value) s l (outermost old) so e h w = (any_notes (x ∷ note (answered (S.Value value)) s ∷ done_notes s l.entries), on_fits s l l.entries refl so h)
  go_on_fits k import x S.Trap s l who so e h w = (any_notes (x ∷ import_traps s), tt)

  tested_fits : (k import : ℕ) (args : List Value) (who : Asker) (l : Left) (a : Answer) (o : Option End) → LeftTyped b l → AskerFits import who
      → (o ≡ None → SaidTyped b import a.said) → TurnFits (tested b k import args who l a o)
  tested_fits k import args who l a (Some e) h w typed = (any_notes (called_at ∷ note (ended e) called_at.store ∷ []), tt)
    where
      called_at : Note
      called_at = call_note import args (store_at who) (stack_at b who) None
  tested_fits k import args who l a None h w typed =
      go_on_fits k import (call_note import args (store_at who) (stack_at b who) (pause_of a.ticks)) a.said (poked (store_at who) a.pokes) l who
      (poked_fits (store_at who) a (asker_store import who w)) (typed refl) h w

  asked_fits : (k import : ℕ) (args : List Value) (who : Asker) (l : Left) (os : List Outcome) → LeftTyped b l → AskerFits import who → TurnFits (asked b plan k import args who l os)
  asked_fits k import args who l [] h w = (any_notes (call_note import args (store_at who) (stack_at b who) None ∷ []), tt)
  asked_fits k import args who l (refused e ∷ os) h w = (any_notes (call_note import args (store_at who) (stack_at b who) None ∷ note (ended e) (store_at who) ∷ []), tt)
  asked_fits k import args who l (given a ∷ os) h w =
      let results : List ValType = (func_type_at b import).results in
      tested_fits k import args who (with_outcomes l os) a (fault_of results (length (store_at who).memory) plan (in_start who) import a) h w
      (λ passed. said_typed b import results a.said (results_are b v import) (or_else_first _ _ passed))

  step_turn : (task : Task) (l : Left) (outs : List ValType) (o : Next) → LeftTyped b l → NextFits b outs o → TurnFits (by_step b plan task l o)
  step_turn task l outs (steps k d) h n = (any_notes [], (outs, n, h))
  step_turn task l outs (asks k import args d) h n = asked_fits k import args (inside task d) l l.outcomes h (outs, n.2)
  step_turn task l outs (returns k results s) h n = back_fits k task results s l n.0 h
  step_turn task l outs (traps k trap s) h n = (any_notes (note (ended (Trapped trap)) s ∷ []), tt)
  step_turn task l outs stuck h n = absurd n

  enters_fits : (x : Entry) (s : Store) (l : Left) (o : Option Func) → StoreFits b s → EntryTyped b x → LeftTyped b l → defined_at b x.func ≡ o → TurnFits (enters x s l o)
  enters_fits x s l None so e h there = tt
  enters_fits x s l (Some f) so e h there = (any_notes [], (results_of b x.func, calls_fit b s x.args x.func f v so there e.1, h))

  next_fits : (s : Store) (l : Left) (es : List Entry) → StoreFits b s → All (EntryTyped b) es → TurnFits (enter_next b s l es)
  next_fits s l [] so h = tt
  next_fits s l (x ∷ es) so h =
      enters_fits x s (record { number = l.number; entries = es; outcomes = l.outcomes }) (defined_at b x.func) so (All-head (EntryTyped b) x es h) (All-tail (EntryTyped b) x es h) refl

  start_turn : (x : ℕ) (s : Store) (l : Left) (o : Option Func) → StoreFits b s → (func_type_at b x).params ≡ [] → LeftTyped b l → defined_at b x ≡ o → TurnFits (start_called b plan x s l o)
  start_turn x s l (Some f) so e h there = (any_notes [], (results_of b x, calls_fit b s [] x f v so there (sym e), h))
  start_turn x s l None so e h there = by_import (ltb x (func_imports b))
    where
      by_import : (t : Bool) → TurnFits (cond t (asked b plan 0 x [] (outermost s) l l.outcomes) stops)
      by_import true = asked_fits 0 x [] (outermost s) l l.outcomes h so
      by_import false = tt

  turn_fits : (t : State) → StateFits b t → TurnFits (blocking b plan t)
  turn_fits (between s l) h = next_fits s l l.entries h.0 h.2
  turn_fits (begins x s l) h = start_turn x s l (defined_at b x) h.0 h.1.0 h.2 refl
  turn_fits (runs task c l) h = step_turn task l h.0 (step b c) h.2 (steps_fit b h.0 c v h.1)
  turn_fits (halts s) h = tt

  begun_fits : (l : Left) (o : Opening) (start : Option ℕ) (n : ℕ) → LeftTyped b l → ((s : Store) → o ≡ opens s → StoreFits b s)
      → ((x : ℕ) → start ≡ Some x → ((func_type_at b x).params ≡ []) × (x < length (func_sorts b)))
      → RanKeeps (blocking b plan) (StateFits b) AnyNote (continued b plan n (begun start l o))
  begun_fits l (fails_as e) start n h so st = after_keeps (blocking b plan) (StateFits b) AnyNote turn_fits n (begun start l (fails_as e)) (any_notes (note (ended e) no_store ∷ []), tt)
  begun_fits l (opens s) start n h so st = by_start start st
    where
      by_start : (o : Option ℕ) → ((x : ℕ) → o ≡ Some x → ((func_type_at b x).params ≡ []) × (x < length (func_sorts b)))
          → RanKeeps (blocking b plan) (StateFits b) AnyNote (continued b plan n (started s l o))
      by_start None r = after_keeps (blocking b plan) (StateFits b) AnyNote turn_fits n (started s l None) (any_notes (done_notes s l.entries), on_fits s l l.entries refl (so s refl) h)
      by_start (Some x) r = after_keeps (blocking b plan) (StateFits b) AnyNote turn_fits n (started s l (Some x)) (any_notes [], (so s refl, r x refl, h))

  -- ---- where it stops

  go_on_goes : (k : ℕ) (x : Note) (said : Said) (s : Store) (l : Left) (w : Asker) → go_on k x said s l w ≡ stops → ⊥
  go_on_goes k x (S.Value value) s l (inside task c) e = cc
  go_on_goes k x (S.Value value) s l (outermost old) e = cc
  go_on_goes k x S.Trap s l w e = cc

  asked_goes : (k import : ℕ) (args : List Value) (who : Asker) (l : Left) (os : List Outcome) → asked b plan k import args who l os ≡ stops → ⊥
  asked_goes k import args who l [] e = cc
  asked_goes k import args who l (refused r ∷ os) e = cc
  asked_goes k import args who l (given a ∷ os) e = by_test (fault_of (func_type_at b import).results (length (store_at who).memory) plan (in_start who) import a) who e
    where
      by_test : (o : Option End) (w : Asker) → tested b k import args w (with_outcomes l os) a o ≡ stops → ⊥
      by_test (Some r) w e = cc
      by_test None w e = go_on_goes k (call_note import args (store_at w) (stack_at b w) (pause_of a.ticks)) a.said (poked (store_at w) a.pokes) (with_outcomes l os) w e

  back_goes : (k : ℕ) (task : Task) (results : List Value) (s : Store) (l : Left) → task_back k task results s l ≡ stops → ⊥
  back_goes k the_start results s l e = cc
  back_goes k (an_entry x) results s l e = cc

  step_goes : (task : Task) (l : Left) (outs : List ValType) (o : Next) → NextFits b outs o → by_step b plan task l o ≡ stops → ⊥
  step_goes task l outs (steps k d) n e = cc
  step_goes task l outs (asks k import args d) n e = asked_goes k import args (inside task d) l l.outcomes e
  step_goes task l outs (returns k results s) n e = back_goes k task results s l e
  step_goes task l outs (traps k trap s) n e = cc
  step_goes task l outs stuck n e = n

  enters_goes : (x : Entry) (s : Store) (l : Left) (f : Func) (o : Option Func) → o ≡ Some f → enters x s l o ≡ stops → ⊥
  enters_goes x s l f None d e = cc
  enters_goes x s l f (Some g) d e = cc

  next_goes : (s : Store) (l : Left) (es : List Entry) → SomeLeft es → All (EntryTyped b) es → enter_next b s l es ≡ stops → ⊥
  next_goes s l [] some h e = some
  next_goes s l (x ∷ es) some h e =
      let there = (All-head (EntryTyped b) x es h).0 in enters_goes x s (record { number = l.number; entries = es; outcomes = l.outcomes }) there.0 (defined_at b x.func) there.1 e

  start_goes : (x : ℕ) (s : Store) (l : Left) (o : Option Func) → defined_at b x ≡ o → x < length (func_sorts b) → start_called b plan x s l o ≡ stops → ⊥
  start_goes x s l (Some f) d lt e = cc
  start_goes x s l None d lt e = by_import (nat_lt x (func_imports b)) refl e
    where
      by_import : (t : Bool) → nat_lt x (func_imports b) ≡ t → (if t then asked b plan 0 x [] (outermost s) l l.outcomes else stops) ≡ stops → ⊥
      by_import true z e = asked_goes 0 x [] (outermost s) l l.outcomes e
      by_import false z e = let i = not_defined b x lt d in let j = ltb-false x (func_imports b) z in omega (arith, i, j)

  stops_over : (t : State) → StateFits b t → blocking b plan t ≡ stops → (s : Store) × (t ≡ halts s)
  stops_over (between s l) h e = absurd (next_goes s l l.entries h.1 h.2 e)
  stops_over (begins x s l) h e = absurd (start_goes x s l (defined_at b x) refl h.1.1 e)
  stops_over (runs task c l) h e = absurd (step_goes task l h.0 (step b c) (steps_fit b h.0 c v h.1) e)
  stops_over (halts s) h e = (s, refl)

pub start_there : (b : Module) (x : ℕ) (o : Option ℕ) → Each (λ y. y < length (func_sorts b)) (option_to_list o) → o ≡ Some x → x < length (func_sorts b)
start_there b x None h e = cc
start_there b x (Some y) h e = let z : y ≡ x = cc in subst (λ n. n < length (func_sorts b)) z h.0

pub blocking_runs_fit : BlockingRunsFit
blocking_runs_fit m plan os n v fits =
    let b : Module = Base m in
    let vb = base_valid m v in
    let globals : types_of plan.globals ≡ global_types (imported imported_global b) = listed_typed _ plan.globals fits.globals.typed ∙ ap global_types (sym (base_globals m)) in
    let run = begun_fits b vb plan (all_left plan os) (opening b plan.globals) b.start n
    (All-weaker (EntryFits m) (EntryTyped b) (λ x h. entry_typed m x h) plan.entries fits.entries)
    (λ s o. openings_fit b plan.globals s vb globals o) (λ x o. (start_takes_none b x vb o, start_there b x b.start (valid_instance b vb).start o)) in
    run.1
  where
    entry_typed : (m : Module) (x : Entry) → EntryFits m x → EntryTyped (Base m) x
    entry_typed m x h =
        ((h.defined.0, base_defined m x.func ∙ h.defined.1), listed_typed (func_type_at m x.func).params x.args h.args.typed ∙ ap (λ (t : FuncType). t.params) (sym (base_type m x.func)))

pub blocking_stops_over : BlockingStopsOver
blocking_stops_over m plan os n v fits e = stops_over (Base m) (base_valid m v) plan (Blocking m plan os n).last (blocking_runs_fit m plan os n v fits) e

pub blocking_states_stop : BlockingStatesStop
blocking_states_stop m plan t v h = (stops_over m v plan t h, λ over. subst (λ (u : State). blocking m plan u ≡ stops) (sym over.1) refl)

pub blocking_states_stay : BlockingStatesStay
blocking_states_stay m plan t u n notes v h l = (leads_keeps (blocking m plan) (StateFits m) (λ (x : Note). Unit {0}) (λ s k. turn_fits m v plan s k) t u n notes h l).1
