-- A run with blocking imports ends by its own reductions, its answers or its instantiation, and never by what a host does; nor is it paused.
use Rattle.std.proofs.Common.{◌≡◌, ℕ, List, [], ◌∷◌, length, Option, Some, None, Bool, true, false, All, refl}
use Rattle.std.specs.Prelude.{nat_lt, if◌then◌else◌}
use Rattle.std.proofs.lemmas.List.Elements.{All-nil, All-cons, All-head, All-tail}
use Rattle.wa_types.specs.declared.values.ValType.{ValType}
use Rattle.wa_types.specs.declared.values.Value.{Value}
use Rattle.wa_types.specs.Base.{Base}
use Rattle.wa_types.specs.Syntax.{Func, Module}
use Rattle.wa_types.specs.Modules.{func_imports, func_type_at, defined_at}
use Rattle.wa_types.specs.declared.values.Trap.TheVariants.{Import}
use Rattle.wa_model.specs.declared.answers.Said.{Said}
use Rattle.wa_model.specs.declared.answers.Said.TheVariants as S
use Rattle.wa_model.specs.declared.events.End.{End}
use Rattle.wa_model.specs.declared.events.End.TheVariants.{Done, Trapped, UnwindTrap, RewindTrap, StepsSpent, Broken}
use Rattle.wa_model.specs.Outside.{Answer, Event, answered, paused, returned, ended}
use Rattle.wa_model.specs.Machine.{Turn, stops}
use Rattle.wa_model.specs.Store.{Store}
use Rattle.wa_model.specs.Step.{Next, steps, asks, returns, traps, stuck, step}
use Rattle.wa_model.specs.Plan.{Entry, Plan, Outcome, given, refused, OutcomeFits, IsRefusal}
use Rattle.wa_model.specs.Instantiation.{Opening, fails_as, opens, opening}
use Rattle.wa_model.specs.Blocking.{Note, note, no_store, call_note, value_of_results}
use Rattle.wa_model.specs.Blocking.{fault_of, pause_of, poked, done_notes, import_traps, Task, the_start, an_entry, Left, with_outcomes, Asker, inside, outermost}
use Rattle.wa_model.specs.Blocking.{store_at, stack_at, in_start, State, between, begins, runs, halts, on_to, task_back, go_on, tested, asked}
use Rattle.wa_model.specs.Blocking.{by_step, enters, enter_next, start_called, next_entry, blocking, all_left, begun, Blocking}
use Rattle.run_theory.proofs.Invariants.{TurnKeeps, RanKeeps, after_keeps}
use Rattle.run_theory.proofs.TestedEnds.{EndIs, fault_is, OpeningIs, opening_is}

-- ends that come of the host's protocol, or of the number of steps
abbrev pub is_hosts : End → Bool
is_hosts (UnwindTrap trap used len) = true
is_hosts (RewindTrap trap) = true
is_hosts (StepsSpent n) = true
is_hosts (Broken rule) = true
is_hosts _ = false

-- an event of the protocol, or such an end
abbrev pub ends_hosts : Event → Bool
ends_hosts (ended how) = is_hosts how
ends_hosts (paused ticks used) = true
ends_hosts _ = false

abbrev pub Own : Note → Type 0
Own x = ends_hosts x.event ≡ false

-- ---- ends of a run with blocking imports

abbrev OwnEnd : Option End → Type 0
OwnEnd = EndIs (λ e. is_hosts e ≡ false)

fault_own : (results : List ValType) (size : ℕ) (plan : Plan) (start : Bool) (import : ℕ) (a : Answer) → OwnEnd (fault_of results size plan start import a)
fault_own results size plan start import a =
    fault_is (λ e. is_hosts e ≡ false) (record { value = λ i v. refl; poke = λ at len. refl; start = λ i. refl }) results size plan start import a (λ h. refl)

refusal_own : (e : End) → IsRefusal e → is_hosts e ≡ false
refusal_own (UnwindTrap trap used len) h = absurd h
refusal_own (RewindTrap trap) h = absurd h
refusal_own (StepsSpent n) h = absurd h
refusal_own (Broken rule) h = absurd h
refusal_own _ h = refl

abbrev Lawful : State → Type 0
Lawful (between s l) = All OutcomeFits l.outcomes
Lawful (begins x s l) = All OutcomeFits l.outcomes
Lawful (runs task c l) = All OutcomeFits l.outcomes
Lawful (halts s) = Unit {0}

no_notes : All Own []
no_notes = All-nil Own

one_note : (x : Note) → Own x → All Own (x ∷ [])
one_note x h = All-cons Own x [] h no_notes

two_notes : (x y : Note) → Own x → Own y → All Own (x ∷ y ∷ [])
two_notes x y h k = All-cons Own x (y ∷ []) h (one_note y k)

done_own : (s : Store) (es : List Entry) → All Own (done_notes s es)
done_own s [] = one_note (note (ended Done) s) refl
done_own s (e ∷ es) = no_notes

abbrev OwnOpening : Opening → Type 0
OwnOpening = OpeningIs (λ e. is_hosts e ≡ false)

opening_own : (m : Module) (imports : List Value) → OwnOpening (opening m imports)
opening_own = opening_is (λ e. is_hosts e ≡ false) (record { limit = λ entries found. refl; elements = λ i. refl; bytes = λ i. refl })

module _ (m : Module) (plan : Plan) where
  abbrev Keeps : Turn State Note → Type 0
  Keeps t = TurnKeeps (blocking m plan) Lawful Own t

  on_lawful : (s : Store) (l : Left) (es : List Entry) → All OutcomeFits l.outcomes → Lawful (on_to s l es)
  on_lawful s l [] h = tt
  on_lawful s l (e ∷ es) h = h

  back_keeps : (k : ℕ) (task : Task) (results : List Value) (s : Store) (l : Left) → All OutcomeFits l.outcomes → Keeps (task_back k task results s l)
  back_keeps k the_start results s l h = (done_own s l.entries, on_lawful s l l.entries h)
  back_keeps k (an_entry e) results s l h =
      (All-cons Own (note (returned l.number (value_of_results results)) s) (done_notes s l.entries) refl (done_own s l.entries), on_lawful s (next_entry l) l.entries h)

  given_keeps : (k import : ℕ) (args : List Value) (who : Asker) (l : Left) (said : Said) (s : Store) (pause : Option ℕ) → All OutcomeFits l.outcomes
      → Keeps (go_on k (call_note import args (store_at who) (stack_at m who) pause) said s l who)
  given_keeps k import args (inside task c) l (S.Value v) s pause h =
      (two_notes (call_note import args c.store (stack_at m (inside task c)) pause) (note (answered (S.Value v)) s) refl refl, h)
  given_keeps k import args (outermost old) l (S.Value v) s pause h = (
    All-cons Own (call_note import args old [] pause) (note (answered (S.Value v)) s ∷ done_notes s l.entries) refl
        (All-cons Own (note (answered (S.Value v)) s) (done_notes s l.entries) refl (done_own s l.entries)),
    on_lawful s l l.entries h,
  )
  given_keeps k import args who l S.Trap s pause h = (
    All-cons Own (call_note import args (store_at who) (stack_at m who) pause) (import_traps s) refl
        (two_notes (note (answered S.Trap) s) (note (ended (Trapped Import)) s) refl refl),
    tt,
  )

  tested_keeps : (k import : ℕ) (args : List Value) (who : Asker) (l : Left) (a : Answer) (o : Option End) → All OutcomeFits l.outcomes → OwnEnd o → Keeps (tested m k import args who l a o)
  tested_keeps k import args who l a (Some e) h r =
      (two_notes (call_note import args (store_at who) (stack_at m who) None) (note (ended e) (store_at who)) refl r, tt)
  tested_keeps k import args who l a None h r = given_keeps k import args who l a.said (poked (store_at who) a.pokes) (pause_of a.ticks) h

  asked_keeps : (k import : ℕ) (args : List Value) (who : Asker) (l : Left) (os : List Outcome) → All OutcomeFits os → Keeps (asked m plan k import args who l os)
  asked_keeps k import args who l [] h = (one_note (call_note import args (store_at who) (stack_at m who) None) refl, tt)
  asked_keeps k import args who l (refused e ∷ os) h =
      (two_notes (call_note import args (store_at who) (stack_at m who) None) (note (ended e) (store_at who)) refl (refusal_own e (All-head OutcomeFits (refused e) os h)), tt)
  asked_keeps k import args who l (given a ∷ os) h =
      tested_keeps k import args who (with_outcomes l os) a (fault_of (func_type_at m import).results (length (store_at who).memory) plan (in_start who) import a)
      (All-tail OutcomeFits (given a) os h) (fault_own (func_type_at m import).results (length (store_at who).memory) plan (in_start who) import a)

  step_keeps : (task : Task) (l : Left) (o : Next) → All OutcomeFits l.outcomes → Keeps (by_step m plan task l o)
  step_keeps task l (steps k d) h = (no_notes, h)
  step_keeps task l (asks k import args d) h = asked_keeps k import args (inside task d) l l.outcomes h
  step_keeps task l (returns k results s) h = back_keeps k task results s l h
  step_keeps task l (traps k trap s) h = (one_note (note (ended (Trapped trap)) s) refl, tt)
  step_keeps task l stuck h = tt

  enters_keeps : (e : Entry) (s : Store) (l : Left) (o : Option Func) → All OutcomeFits l.outcomes → Keeps (enters e s l o)
  enters_keeps e s l None h = tt
  enters_keeps e s l (Some f) h = (no_notes, h)

  next_keeps : (s : Store) (l : Left) (es : List Entry) → All OutcomeFits l.outcomes → Keeps (enter_next m s l es)
  next_keeps s l [] h = tt
  next_keeps s l (e ∷ es) h = enters_keeps e s (record { number = l.number; entries = es; outcomes = l.outcomes }) (defined_at m e.func) h

  start_keeps : (x : ℕ) (s : Store) (l : Left) (o : Option Func) → All OutcomeFits l.outcomes → Keeps (start_called m plan x s l o)
  start_keeps x s l (Some f) h = (no_notes, h)
  start_keeps x s l None h = by_import (nat_lt x (func_imports m))
    where
      by_import : (b : Bool) → Keeps (if b then asked m plan 0 x [] (outermost s) l l.outcomes else stops)
      by_import true = asked_keeps 0 x [] (outermost s) l l.outcomes h
      by_import false = tt

  turn_keeps : (t : State) → Lawful t → Keeps (blocking m plan t)
  turn_keeps (between s l) h = next_keeps s l l.entries h
  turn_keeps (begins x s l) h = start_keeps x s l (defined_at m x) h
  turn_keeps (runs task c l) h = step_keeps task l (step m c) h
  turn_keeps (halts s) h = tt

  begun_keeps : (start : Option ℕ) (l : Left) (o : Opening) → OwnOpening o → All OutcomeFits l.outcomes → RanKeeps (blocking m plan) Lawful Own (begun start l o)
  begun_keeps start l (fails_as e) r h = (one_note (note (ended e) no_store) r, tt)
  begun_keeps None l (opens s) r h = (done_own s l.entries, on_lawful s l l.entries h)
  begun_keeps (Some x) l (opens s) r h = (no_notes, h)

-- Such a run makes no end that the host makes.
pub blocking_own : (m : Module) (plan : Plan) (os : List Outcome) (n : ℕ) → All OutcomeFits os → All Own (Blocking m plan os n).events
blocking_own m plan os n h =
    let b : Module = Base m in
    (after_keeps (blocking b plan) Lawful Own (turn_keeps b plan) n (begun b.start (all_left plan os) (opening b plan.globals))
    (begun_keeps b plan b.start (all_left plan os) (opening b plan.globals) (opening_own b plan.globals) h)).0
