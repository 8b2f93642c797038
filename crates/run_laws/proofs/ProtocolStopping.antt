-- A run of a valid module under the protocol stops only where all is over.
use Rattle.std.proofs.Common.{arith, ◌≡◌, ◌<◌, ℕ, zero, suc, List, [], ◌∷◌, length, Option, Some, None, Bool, true, false, cond, ltb, eqb, eqb-true, All, refl, sym, ◌∙◌, subst}
use Rattle.std.specs.Prelude.{nat_lt, if◌then◌else◌}
use Rattle.std.specs.Option.{option_to_list}
use Rattle.std.proofs.lemmas.Bool.{ltb-false}
use Rattle.std.proofs.lemmas.List.Elements.{All-nil, All-cons, All-head, All-tail, All-weaker}
use Rattle.wa_types.specs.declared.values.ValType.{ValType}
use Rattle.wa_types.specs.declared.values.Value.{Value}
use Rattle.wa_types.specs.Syntax.{Func, Module}
use Rattle.wa_types.specs.Validity.{Valid}
use Rattle.wa_types.specs.Modules.{imported, imported_global, func_imports, func_sorts, func_type_at, defined_at}
use Rattle.wa_types.specs.declared.values.Trap.TheVariants.{Import}
use Rattle.wa_model.specs.declared.answers.Said.{Said}
use Rattle.wa_model.specs.declared.answers.Said.TheVariants as S
use Rattle.wa_model.specs.declared.events.End.{End}
use Rattle.wa_model.specs.declared.events.End.TheVariants.{Broken, Trapped}
use Rattle.wa_model.specs.Outside.{Answer, answered, returned, ended, paused}
use Rattle.wa_model.specs.Machine.{Turn, stops, goes}
use Rattle.wa_model.specs.Store.{Store}
use Rattle.wa_model.specs.Configuration.{Configuration}
use Rattle.wa_model.specs.Step.{Next, steps, asks, returns, traps, stuck, step}
use Rattle.wa_model.specs.Plan.{Entry, EntryFits, Plan, Outcome, given, refused}
use Rattle.wa_model.specs.Instantiation.{Opening, fails_as, opens, opening}
use Rattle.wa_model.specs.Blocking.{Note, note, no_store, value_of_results, fault_of, pause_of, poked, done_notes, import_traps, Task, the_start, an_entry, Left, with_outcomes, Asker, inside, outermost, store_at, in_start, stack_at, call_note, next_entry, all_left}
use Rattle.wa_model.specs.Protocol.{Exports, exports_of, Phase, is_running, unwinds, rewinds, Then, give_zero, test_unwound, pause_there, call_again, test_rewound, give_answer, Held, free, starting, busy, calling, aside, entering, over, with_words, used_of, broken, held_on, held_back, held_given, held_pauses, held_resumed, held_tested, held_asked, trap_end, busy_step, is_state, zeros_of, answer_note, aside_back, aside_step, busy_enters, held_next, aside_called, held_start, protocol, held_started, held_begun, held_continued, Protocol}
use Rattle.run_theory.specs.Fitting.{types_of, results_of, global_types, StoreFits, CallersFit, WaitingFits, NextFits}
use Rattle.run_theory.proofs.Invariants.{TurnKeeps, RanKeeps, after_keeps, leads_keeps}
use Rattle.run_theory.proofs.FittingNames.{not_defined, results_are, zeros_typed}
use Rattle.run_theory.proofs.FittingSteps.{steps_fit}
use Rattle.run_theory.proofs.FittingRuns.{calls_fit, answers_fit}
use Rattle.run_theory.proofs.FittingOpenings.{openings_fit}
use Rattle.run_theory.proofs.NamedModules.{valid_instance}
use Rattle.run_laws.proofs.SpotRuns.{said_typed, or_else_first, listed_typed, start_takes_none}
use Rattle.run_laws.proofs.StandingPauses.{fault_outside}
use Rattle.run_laws.specs.FittingStates.{Callable, EntryTyped, LeftTyped, SomeLeft, TaskTyped, SaidTyped, PhaseTyped, Waits, ThenFits, HeldFits, ExportsTyped}
use Rattle.run_laws.specs.Stopping.{ProtocolStatesStop, ProtocolStatesStay, ProtocolRunsFit, ProtocolStopsOver}
use Rattle.run_laws.proofs.Stopping.{start_there}

module _ (p : Module) (v : Valid p) (plan : Plan) (ex : ExportsTyped p) where
  abbrev x : Exports
  x = exports_of p

  abbrev AnyNote : Note → Type 0
  AnyNote y = Unit {0}

  any_notes : (xs : List Note) → All AnyNote xs
  any_notes [] = All-nil AnyNote
  any_notes (y ∷ ys) = All-cons AnyNote y ys tt (any_notes ys)

  abbrev TurnFits : Turn Held Note → Type 0
  TurnFits t = TurnKeeps (protocol p x plan) (HeldFits p) AnyNote t

  abbrev AskerFits : ℕ → Asker → Type 0
  AskerFits import (inside task c) = TaskTyped p task × (outs : List ValType) × WaitingFits p outs import c × (import < func_imports p)
  AskerFits import (outermost s) = StoreFits p s

  on_fits : (s : Store) (l : Left) (es : List Entry) → es ≡ l.entries → StoreFits p s → LeftTyped p l → HeldFits p (held_on s l es)
  on_fits s l [] e so h = tt
  on_fits s l (y ∷ es) e so h = (so, subst SomeLeft e tt, h)

  back_fits : (k : ℕ) (task : Task) (results : List Value) (s : Store) (l : Left) → StoreFits p s → LeftTyped p l → TurnFits (held_back k task results s l)
  back_fits k the_start results s l so h = (any_notes (done_notes s l.entries), on_fits s l l.entries refl so h)
  back_fits k (an_entry e) results s l so h = (any_notes (note (returned l.number (value_of_results results)) s ∷ done_notes s l.entries), on_fits s (next_entry l) l.entries refl so h)

  asker_store : (import : ℕ) (who : Asker) → AskerFits import who → StoreFits p (store_at who)
  asker_store import (inside task c) w = w.2.store
  asker_store import (outermost s) w = w

  poked_fits : (s : Store) (a : Answer) → StoreFits p s → StoreFits p (poked s a.pokes)
  poked_fits s a so = record { globals = so.globals; table = so.table }

  words_fit : (s : Store) → StoreFits p s → StoreFits p (with_words s plan.area)
  words_fit s so = record { globals = so.globals; table = so.table }

  broken_fits : (k rule : ℕ) (s : Store) → TurnFits (broken k rule s)
  broken_fits k rule s = (any_notes (note (ended (Broken rule)) s ∷ []), tt)

  given_fits : (k import : ℕ) (called : Note) (said : Said) (s : Store) (l : Left) (who : Asker) → StoreFits p s → SaidTyped p import said
      → LeftTyped p l → AskerFits import who → TurnFits (held_given k called said s l who)
  given_fits k import called (S.Value value) s l (inside task c) so e h w =
      (any_notes (called ∷ note (answered (S.Value value)) s ∷ []), (w.1, answers_fit p w.1 c s (option_to_list value) so (subst (λ ts. CallersFit p w.1 ts (c.here ∷ c.under)) (sym e) w.2.waits), w.0, h))
  given_fits k import called (S.Value value) s l (outermost old) so e h w = (any_notes (called ∷ note (answered (S.Value value)) s ∷ done_notes s l.entries), on_fits s l l.entries refl so h)
  given_fits k import called S.Trap s l who so e h w = (any_notes (called ∷ import_traps s), tt)

  pauses_fit : (k import : ℕ) (called : Note) (a : Answer) (l : Left) (who : Asker) → SaidTyped p import a.said → LeftTyped p l → AskerFits import who
      → TurnFits (held_pauses x plan k called import a l who)
  pauses_fit k import called a l (inside (an_entry e) c) typed h w =
      (any_notes (called ∷ []), (words_fit c.store w.2.store, ex.start_unwind, (w.0, typed, w.3), (w.1, w.2.waits), h))
  pauses_fit k import called a l (inside the_start c) typed h w = tt
  pauses_fit k import called a l (outermost s) typed h w = tt

  tested_fits : (k import : ℕ) (args : List Value) (who : Asker) (l : Left) (a : Answer) (o : Option End) (pause : Option ℕ) → LeftTyped p l → AskerFits import who
      → (o ≡ None → SaidTyped p import a.said) → TurnFits (held_tested p x plan k import args who l a o pause)
  tested_fits k import args who l a (Some e) pause h w typed = (any_notes (called_at ∷ note (ended e) called_at.store ∷ []), tt)
    where
      called_at : Note
      called_at = call_note import args (store_at who) (stack_at p who) None
  tested_fits k import args who l a None None h w typed =
      given_fits k import (call_note import args (store_at who) (stack_at p who) None) a.said (poked (store_at who) a.pokes) l who (poked_fits (store_at who) a (asker_store import who w)) (typed refl) h w
  tested_fits k import args who l a None (Some ticks) h w typed = pauses_fit k import (call_note import args (store_at who) (stack_at p who) (Some ticks)) a l who (typed refl) h w

  asked_fits : (k import : ℕ) (args : List Value) (who : Asker) (l : Left) (os : List Outcome) → LeftTyped p l → AskerFits import who → TurnFits (held_asked p x plan k import args who l os)
  asked_fits k import args who l [] h w = (any_notes (call_note import args (store_at who) (stack_at p who) None ∷ []), tt)
  asked_fits k import args who l (refused e ∷ os) h w = (any_notes (call_note import args (store_at who) (stack_at p who) None ∷ note (ended e) (store_at who) ∷ []), tt)
  asked_fits k import args who l (given a ∷ os) h w =
      let results : List ValType = (func_type_at p import).results in
      tested_fits k import args who (with_outcomes l os) a (fault_of results (length (store_at who).memory) plan (in_start who) import a) (pause_of a.ticks) h w
      (λ passed. said_typed p import results a.said (results_are p v import) (or_else_first _ _ passed))

  busy_turn : (ph : Phase) (l : Left) (outs : List ValType) (o : Next) → PhaseTyped p ph → LeftTyped p l → NextFits p outs o → TurnFits (busy_step p x plan ph l o)
  busy_turn ph l outs (steps k d) t h n = (any_notes [], (outs, n, t, h))
  busy_turn (is_running task) l outs (asks k import args d) t h n = asked_fits k import args (inside task d) l l.outcomes h (t, outs, n.2, n.0)
  busy_turn (unwinds e i a) l outs (asks k import args d) t h n = broken_fits k 1 d.store
  busy_turn (rewinds e i a sp) l outs (asks k import args d) t h n = by_import (eqb import i) refl
    where
      by_import : (b : Bool) → eqb import i ≡ b → TurnFits (cond b (goes k [] (calling (rewinds e i a sp) d.store x.get_state [] (test_rewound d) l)) (broken k 3 d.store))
      by_import true z =
          let same : import ≡ i = eqb-true import i z in
          (any_notes [], (n.2.store, ex.get_state, t, (outs, subst (λ j. CallersFit p outs (results_of p j) (d.here ∷ d.under)) same n.2.waits), h))
      by_import false z = broken_fits k 3 d.store
  busy_turn (is_running task) l outs (returns k results s) t h n = back_fits k task results s l n.0 h
  busy_turn (unwinds e i a) l outs (returns k results s) t h n = (any_notes [], (n.0, ex.get_state, t, tt, h))
  busy_turn (rewinds e i a sp) l outs (returns k results s) t h n = broken_fits k 5 s
  busy_turn ph l outs (traps k trap s) t h n = (any_notes (note (ended (trap_end plan.area ph trap s)) s ∷ []), tt)
  busy_turn ph l outs stuck t h n = absurd n

  resumed_fits : (k import : ℕ) (e : Entry) (said : Said) (sp : Store) (c : Configuration) (l : Left) (s : Store) → EntryTyped p e → SaidTyped p import said → Waits p import c
      → LeftTyped p l → StoreFits p s → TurnFits (held_resumed k e said sp c l s)
  resumed_fits k import e (S.Value value) sp c l s t typed w h so = (
    any_notes (answer_note (S.Value value) s sp ∷ []),
    (w.0, answers_fit p w.0 c s (option_to_list value) so (subst (λ ts. CallersFit p w.0 ts (c.here ∷ c.under)) (sym typed) w.1), t, h),
  )
  resumed_fits k import e S.Trap sp c l s t typed w h so = (any_notes (answer_note S.Trap s sp ∷ note (ended (Trapped Import)) s ∷ []), tt)

  aside_back_fits : (k : ℕ) (ph : Phase) (th : Then) (l : Left) (results : List Value) (s : Store) → PhaseTyped p ph → ThenFits p ph th
      → LeftTyped p l → StoreFits p s → TurnFits (aside_back p x plan k ph th l results s)
  aside_back_fits k (unwinds e i a) (give_zero c) l results s t w h so =
      let zeros : types_of (zeros_of p i) ≡ results_of p i = zeros_typed (func_type_at p i).results ∙ sym (results_are p v i) in
      (any_notes [], (w.0, answers_fit p w.0 c s (zeros_of p i) so (subst (λ ts. CallersFit p w.0 ts (c.here ∷ c.under)) (sym zeros) w.1), t, h))
  aside_back_fits k (unwinds e i a) test_unwound l results s t w h so = by_state (is_state 1 results)
    where
      by_state : (b : Bool) → TurnFits (cond b (goes k [] (calling (unwinds e i a) s x.stop_unwind [] pause_there l)) (broken k 2 s))
      by_state true = (any_notes [], (so, ex.stop_unwind, t, tt, h))
      by_state false = broken_fits k 2 s
  aside_back_fits k (unwinds e i a) pause_there l results s t w h so = (any_notes (note (paused a.ticks (used_of s plan.area)) s ∷ []), (so, ex.start_rewind, t, tt, h))
  aside_back_fits k (rewinds e i a sp) call_again l results s t w h so = (any_notes [], (so, t.0, t, h))
  aside_back_fits k (rewinds e i a sp) (test_rewound c) l results s t w h so = by_state (is_state 2 results)
    where
      by_state : (b : Bool) → TurnFits (cond b (goes k [] (calling (rewinds e i a sp) s x.stop_rewind [] (give_answer c) l)) (broken k 4 s))
      by_state true = (any_notes [], (so, ex.stop_rewind, t, w, h))
      by_state false = broken_fits k 4 s
  aside_back_fits k (rewinds e i a sp) (give_answer c) l results s t w h so = resumed_fits k i e a.said sp c l (poked s a.pokes) t.0 t.1 w h (poked_fits s a so)
  aside_back_fits k _ _ l results s t w h so = absurd w

  aside_turn : (ph : Phase) (th : Then) (l : Left) (outs : List ValType) (o : Next) → PhaseTyped p ph → ThenFits p ph th → LeftTyped p l → NextFits p outs o → TurnFits (aside_step p x plan ph th l o)
  aside_turn ph th l outs (steps k d) t w h n = (any_notes [], (outs, n, t, w, h))
  aside_turn ph th l outs (asks k import args d) t w h n = broken_fits k 6 d.store
  aside_turn ph th l outs (returns k results s) t w h n = aside_back_fits k ph th l results s t w h n.0
  aside_turn ph th l outs (traps k trap s) t w h n = (any_notes (note (ended (trap_end plan.area ph trap s)) s ∷ []), tt)
  aside_turn ph th l outs stuck t w h n = absurd n

  enters_fits : (ph : Phase) (e : Entry) (s : Store) (l : Left) (o : Option Func) → StoreFits p s → EntryTyped p e → PhaseTyped p ph
      → LeftTyped p l → defined_at p e.func ≡ o → TurnFits (busy_enters ph e s l o)
  enters_fits ph e s l None so t a h there = tt
  enters_fits ph e s l (Some f) so t a h there = (any_notes [], (results_of p e.func, calls_fit p s e.args e.func f v so there t.1, a, h))

  next_fits : (s : Store) (l : Left) (es : List Entry) → StoreFits p s → All (EntryTyped p) es → TurnFits (held_next p s l es)
  next_fits s l [] so h = tt
  next_fits s l (e ∷ es) so h =
      let t = All-head (EntryTyped p) e es h in
      enters_fits (is_running (an_entry e)) e s (record { number = l.number; entries = es; outcomes = l.outcomes }) (defined_at p e.func) so t t (All-tail (EntryTyped p) e es h) refl

  called_fits : (ph : Phase) (s : Store) (f : ℕ) (args : List Value) (th : Then) (l : Left) (o : Option Func) → StoreFits p s
      → Callable p f (types_of args) → PhaseTyped p ph → ThenFits p ph th → LeftTyped p l
      → defined_at p f ≡ o → TurnFits (aside_called ph s f args th l o)
  called_fits ph s f args th l None so c t w h there = tt
  called_fits ph s f args th l (Some g) so c t w h there = (any_notes [], (results_of p f, calls_fit p s args f g v so there (sym c.1), t, w, h))

  start_fits : (f : ℕ) (s : Store) (l : Left) (o : Option Func) → StoreFits p s → (func_type_at p f).params ≡ [] → LeftTyped p l → defined_at p f ≡ o → TurnFits (held_start p x plan f s l o)
  start_fits f s l (Some g) so e h there = (any_notes [], (results_of p f, calls_fit p s [] f g v so there (sym e), tt, h))
  start_fits f s l None so e h there = by_import (ltb f (func_imports p))
    where
      by_import : (b : Bool) → TurnFits (cond b (held_asked p x plan 0 f [] (outermost s) l l.outcomes) stops)
      by_import true = asked_fits 0 f [] (outermost s) l l.outcomes h so
      by_import false = tt

  pub turn_fits : (t : Held) → HeldFits p t → TurnFits (protocol p x plan t)
  turn_fits (free s l) h = next_fits s l l.entries h.0 h.2
  turn_fits (starting f s l) h = start_fits f s l (defined_at p f) h.0 h.1.0 h.2 refl
  turn_fits (busy ph c l) h = busy_turn ph l h.0 (step p c) h.2 h.3 (steps_fit p h.0 c v h.1)
  turn_fits (calling ph s f args th l) h = called_fits ph s f args th l (defined_at p f) h.0 h.1 h.2 h.3 h.4 refl
  turn_fits (aside ph c th l) h = aside_turn ph th l h.0 (step p c) h.2 h.3 h.4 (steps_fit p h.0 c v h.1)
  turn_fits (entering ph e s l) h = enters_fits ph e s l (defined_at p e.func) h.0 h.1 h.2 h.3 refl
  turn_fits (over s) h = tt

  pub begun_fits : (l : Left) (o : Opening) (start : Option ℕ) (n : ℕ) → LeftTyped p l → ((s : Store) → o ≡ opens s → StoreFits p s)
      → ((f : ℕ) → start ≡ Some f → ((func_type_at p f).params ≡ []) × (f < length (func_sorts p)))
      → RanKeeps (protocol p x plan) (HeldFits p) AnyNote (held_continued p plan n (held_begun start l o))
  begun_fits l (fails_as e) start n h so st = after_keeps (protocol p x plan) (HeldFits p) AnyNote turn_fits n (held_begun start l (fails_as e)) (any_notes (note (ended e) no_store ∷ []), tt)
  begun_fits l (opens s) start n h so st = by_start start st
    where
      by_start : (o : Option ℕ) → ((f : ℕ) → o ≡ Some f → ((func_type_at p f).params ≡ []) × (f < length (func_sorts p)))
          → RanKeeps (protocol p x plan) (HeldFits p) AnyNote (held_continued p plan n (held_started s l o))
      by_start None r = after_keeps (protocol p x plan) (HeldFits p) AnyNote turn_fits n (held_started s l None) (any_notes (done_notes s l.entries), on_fits s l l.entries refl (so s refl) h)
      by_start (Some f) r = after_keeps (protocol p x plan) (HeldFits p) AnyNote turn_fits n (held_started s l (Some f)) (any_notes [], (so s refl, r f refl, h))

  -- ---- where it stops

  ticks_told : (n t : ℕ) → pause_of n ≡ Some t → (k : ℕ) × (n ≡ suc k)
  ticks_told zero t e = cc
  ticks_told (suc n) t e = (n, refl)

  given_goes : (k : ℕ) (called : Note) (said : Said) (s : Store) (l : Left) (who : Asker) → held_given k called said s l who ≡ stops → ⊥
  given_goes k called (S.Value value) s l (inside task c) e = cc
  given_goes k called (S.Value value) s l (outermost old) e = cc
  given_goes k called S.Trap s l who e = cc

  tested_goes : (k import : ℕ) (args : List Value) (who : Asker) (l : Left) (a : Answer) (o : Option End) (pause : Option ℕ) → (o ≡ None → (t : ℕ) → pause ≡ Some t → in_start who ≡ false)
      → held_tested p x plan k import args who l a o pause ≡ stops → ⊥
  tested_goes k import args who l a (Some r) pause out e = cc
  tested_goes k import args who l a None None out e = given_goes k (call_note import args (store_at who) (stack_at p who) None) a.said (poked (store_at who) a.pokes) l who e
  tested_goes k import args (inside (an_entry y) c) l a None (Some t) out e = cc
  tested_goes k import args (inside the_start c) l a None (Some t) out e = let bad : true ≡ false = out refl t refl in cc
  tested_goes k import args (outermost s) l a None (Some t) out e = let bad : true ≡ false = out refl t refl in cc

  asked_goes : (k import : ℕ) (args : List Value) (who : Asker) (l : Left) (os : List Outcome) → held_asked p x plan k import args who l os ≡ stops → ⊥
  asked_goes k import args who l [] e = cc
  asked_goes k import args who l (refused r ∷ os) e = cc
  asked_goes k import args who l (given a ∷ os) e =
      let results : List ValType = (func_type_at p import).results in
      let size : ℕ = length (store_at who).memory in
      tested_goes k import args who (with_outcomes l os) a (fault_of results size plan (in_start who) import a) (pause_of a.ticks)
      (λ none t z. let m = ticks_told a.ticks t z in fault_outside results size plan (in_start who) import a m.0 m.1 none) e

  back_goes : (k : ℕ) (task : Task) (results : List Value) (s : Store) (l : Left) → held_back k task results s l ≡ stops → ⊥
  back_goes k the_start results s l e = cc
  back_goes k (an_entry y) results s l e = cc

  if_goes : (b : Bool) (k j : ℕ) (t : Held) (s : Store) → cond b (goes k [] t) (broken k j s) ≡ stops → ⊥
  if_goes true k j t s e = cc
  if_goes false k j t s e = cc

  busy_goes : (ph : Phase) (l : Left) (outs : List ValType) (o : Next) → NextFits p outs o → busy_step p x plan ph l o ≡ stops → ⊥
  busy_goes ph l outs (steps k d) n e = cc
  busy_goes (is_running task) l outs (asks k import args d) n e = asked_goes k import args (inside task d) l l.outcomes e
  busy_goes (unwinds y i a) l outs (asks k import args d) n e = cc
  busy_goes (rewinds y i a sp) l outs (asks k import args d) n e = if_goes (eqb import i) k 3 (calling (rewinds y i a sp) d.store x.get_state [] (test_rewound d) l) d.store e
  busy_goes (is_running task) l outs (returns k results s) n e = back_goes k task results s l e
  busy_goes (unwinds y i a) l outs (returns k results s) n e = cc
  busy_goes (rewinds y i a sp) l outs (returns k results s) n e = cc
  busy_goes ph l outs (traps k trap s) n e = cc
  busy_goes ph l outs stuck n e = n

  resumed_goes : (k : ℕ) (y : Entry) (said : Said) (sp : Store) (c : Configuration) (l : Left) (s : Store) → held_resumed k y said sp c l s ≡ stops → ⊥
  resumed_goes k y (S.Value value) sp c l s e = cc
  resumed_goes k y S.Trap sp c l s e = cc

  aside_back_goes : (k : ℕ) (ph : Phase) (th : Then) (l : Left) (results : List Value) (s : Store) → ThenFits p ph th → aside_back p x plan k ph th l results s ≡ stops → ⊥
  aside_back_goes k (unwinds y i a) (give_zero c) l results s w e = cc
  aside_back_goes k (unwinds y i a) test_unwound l results s w e = if_goes (is_state 1 results) k 2 (calling (unwinds y i a) s x.stop_unwind [] pause_there l) s e
  aside_back_goes k (unwinds y i a) pause_there l results s w e = cc
  aside_back_goes k (rewinds y i a sp) call_again l results s w e = cc
  aside_back_goes k (rewinds y i a sp) (test_rewound c) l results s w e = if_goes (is_state 2 results) k 4 (calling (rewinds y i a sp) s x.stop_rewind [] (give_answer c) l) s e
  aside_back_goes k (rewinds y i a sp) (give_answer c) l results s w e = resumed_goes k y a.said sp c l (poked s a.pokes) e
  aside_back_goes k _ _ l results s w e = w

  aside_goes : (ph : Phase) (th : Then) (l : Left) (outs : List ValType) (o : Next) → ThenFits p ph th → NextFits p outs o → aside_step p x plan ph th l o ≡ stops → ⊥
  aside_goes ph th l outs (steps k d) w n e = cc
  aside_goes ph th l outs (asks k import args d) w n e = cc
  aside_goes ph th l outs (returns k results s) w n e = aside_back_goes k ph th l results s w e
  aside_goes ph th l outs (traps k trap s) w n e = cc
  aside_goes ph th l outs stuck w n e = n

  enters_goes : (ph : Phase) (y : Entry) (s : Store) (l : Left) (f : Func) (o : Option Func) → o ≡ Some f → busy_enters ph y s l o ≡ stops → ⊥
  enters_goes ph y s l f None d e = cc
  enters_goes ph y s l f (Some g) d e = cc

  called_goes : (ph : Phase) (s : Store) (f : ℕ) (args : List Value) (th : Then) (l : Left) (g : Func) (o : Option Func) → o ≡ Some g → aside_called ph s f args th l o ≡ stops → ⊥
  called_goes ph s f args th l g None d e = cc
  called_goes ph s f args th l g (Some h) d e = cc

  next_goes : (s : Store) (l : Left) (es : List Entry) → SomeLeft es → All (EntryTyped p) es → held_next p s l es ≡ stops → ⊥
  next_goes s l [] some h e = some
  next_goes s l (y ∷ es) some h e =
      let there = (All-head (EntryTyped p) y es h).0 in
      enters_goes (is_running (an_entry y)) y s (record { number = l.number; entries = es; outcomes = l.outcomes }) there.0 (defined_at p y.func) there.1 e

  start_goes : (f : ℕ) (s : Store) (l : Left) (o : Option Func) → defined_at p f ≡ o → f < length (func_sorts p) → held_start p x plan f s l o ≡ stops → ⊥
  start_goes f s l (Some g) d lt e = cc
  start_goes f s l None d lt e = by_import (nat_lt f (func_imports p)) refl e
    where
      by_import : (t : Bool) → nat_lt f (func_imports p) ≡ t → (if t then held_asked p x plan 0 f [] (outermost s) l l.outcomes else stops) ≡ stops → ⊥
      by_import true z e = asked_goes 0 f [] (outermost s) l l.outcomes e
      by_import false z e = let i = not_defined p f lt d in let j = ltb-false f (func_imports p) z in omega (arith, i, j)

  stops_over : (t : Held) → HeldFits p t → protocol p x plan t ≡ stops → (s : Store) × (t ≡ over s)
  stops_over (free s l) h e = absurd (next_goes s l l.entries h.1 h.2 e)
  stops_over (starting f s l) h e = absurd (start_goes f s l (defined_at p f) refl h.1.1 e)
  stops_over (busy ph c l) h e = absurd (busy_goes ph l h.0 (step p c) (steps_fit p h.0 c v h.1) e)
  stops_over (calling ph s f args th l) h e = absurd (called_goes ph s f args th l h.1.0.0 (defined_at p f) h.1.0.1 e)
  stops_over (aside ph c th l) h e = absurd (aside_goes ph th l h.0 (step p c) h.3 (steps_fit p h.0 c v h.1) e)
  stops_over (entering ph y s l) h e = absurd (enters_goes ph y s l h.1.0.0 (defined_at p y.func) h.1.0.1 e)
  stops_over (over s) h e = (s, refl)

pub protocol_runs_fit : ProtocolRunsFit
protocol_runs_fit p plan os n v fits ex =
    let globals : types_of plan.globals ≡ global_types (imported imported_global p) = listed_typed _ plan.globals fits.globals.typed in
    let run = begun_fits p v plan ex (all_left plan os) (opening p plan.globals) p.start n
    (All-weaker (EntryFits p) (EntryTyped p) (λ y h. entry_typed y h) plan.entries fits.entries)
    (λ s o. openings_fit p plan.globals s v globals o) (λ f o. (start_takes_none p f v o, start_there p f p.start (valid_instance p v).start o)) in
    run.1
  where
    entry_typed : (y : Entry) → EntryFits p y → EntryTyped p y
    entry_typed y h = (h.defined, listed_typed (func_type_at p y.func).params y.args h.args.typed)

pub protocol_stops_over : ProtocolStopsOver
protocol_stops_over p plan os n v fits ex e = stops_over p v plan ex (Protocol p plan os n).last (protocol_runs_fit p plan os n v fits ex) e

pub protocol_states_stop : ProtocolStatesStop
protocol_states_stop p plan t v ex h = (stops_over p v plan ex t h, λ there. subst (λ (u : Held). protocol p (exports_of p) plan u ≡ stops) (sym there.1) refl)

pub protocol_states_stay : ProtocolStatesStay
protocol_states_stay p plan t u n notes v ex h l =
    (leads_keeps (protocol p (exports_of p) plan) (HeldFits p) (λ (y : Note). Unit {0}) (λ s k. turn_fits p v plan ex s k) t u n notes h l).1
