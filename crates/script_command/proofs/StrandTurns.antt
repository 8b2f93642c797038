-- A move of a strand tells a device's failure nowhere but behind a call that was refused so, and nothing of parking.
use Rattle.std.proofs.Common.{◌≡◌, ℕ, List, [], ◌∷◌, ◌++◌, length, Option, Some, None, Bool, true, false, refl}
use Rattle.std.specs.Prelude.{nat_lt, nat_eq, if◌then◌else◌}
use Rattle.wa_types.specs.declared.values.ValType.{ValType}
use Rattle.wa_types.specs.declared.values.Value.{Value}
use Rattle.wa_types.specs.declared.values.Trap.{Trap}
use Rattle.wa_types.specs.Syntax.{Func, Module}
use Rattle.wa_types.specs.Modules.{func_imports, func_type_at, defined_at}
use Rattle.wa_model.specs.declared.answers.Said.{Said}
use Rattle.wa_model.specs.declared.answers.Said.TheVariants as S
use Rattle.wa_model.specs.declared.events.End.{End}
use Rattle.wa_model.specs.Outside.{Answer, answered, ended, returned}
use Rattle.wa_model.specs.Machine.{Turn, stops, goes}
use Rattle.wa_model.specs.Store.{Store}
use Rattle.wa_model.specs.Configuration.{Configuration}
use Rattle.wa_model.specs.Step.{Next, steps, asks, returns, traps, stuck, step}
use Rattle.wa_model.specs.Plan.{Entry, Plan, Outcome, given, refused}
use Rattle.wa_model.specs.Instantiation.{Opening, fails_as, opens, opening}
use Rattle.wa_model.specs.Blocking.{Note, note, call_note, value_of_results, fault_of, pause_of, poked, done_notes, Task, the_start, an_entry, Left, with_outcomes, Asker, inside, outermost}
use Rattle.wa_model.specs.Blocking.{store_at, stack_at, in_start, next_entry}
use Rattle.wa_model.specs.Protocol.{Exports, Phase, is_running, unwinds, rewinds, Then, give_zero, test_unwound, pause_there, call_again, test_rewound, give_answer, Held, free, starting, busy, calling}
use Rattle.wa_model.specs.Protocol.{aside, entering, over, trap_end, broken, held_on, held_back, held_given, held_pauses, held_resumed, held_tested, held_asked, busy_step, is_state, aside_back, aside_step}
use Rattle.wa_model.specs.Protocol.{busy_enters, held_next, aside_called, held_start, protocol, held_begun}
use Rattle.world_laws.specs.Originals.{new_calls}
use Rattle.world_laws.specs.Replays.{is_device_fault}
use Rattle.world_laws.proofs.Faults.{Fine}
use Rattle.run_theory.proofs.TestedEnds.{EndIs, fault_is, OpeningIs, opening_is}
use Rattle.world_hosting.proofs.NoneParked.{Unparked}

-- ---- states

-- the outcomes that are left, but where all is over
abbrev pub left_in : Held → List Outcome
left_in (free s l) = l.outcomes
left_in (starting f s l) = l.outcomes
left_in (busy ph c l) = l.outcomes
left_in (calling ph s f args th l) = l.outcomes
left_in (aside ph c th l) = l.outcomes
left_in (entering ph e s l) = l.outcomes
left_in (over s) = []

-- outcomes are left, behind notes that took the others
abbrev pub Takes : List Outcome → List Note → List Outcome → Type 0
Takes os xs left = (used : List Outcome) × (os ≡ used ++ left) × (length used ≡ new_calls xs)

-- so many are where a strand stands, unless it is over
abbrev pub TakesTo : List Outcome → List Note → Held → Type 0
TakesTo os xs (free s l) = Takes os xs l.outcomes
TakesTo os xs (starting f s l) = Takes os xs l.outcomes
TakesTo os xs (busy ph c l) = Takes os xs l.outcomes
TakesTo os xs (calling ph s f args th l) = Takes os xs l.outcomes
TakesTo os xs (aside ph c th l) = Takes os xs l.outcomes
TakesTo os xs (entering ph e s l) = Takes os xs l.outcomes
TakesTo os xs (over s) = Unit {0}

-- Notes behind which a strand stands so.
pub record LeadsTo (os : List Outcome) (xs : List Note) (h : Held) : Type 0 where
  pub fine : Fine os xs
  pub unparked : Unparked xs
  pub takes : TakesTo os xs h

abbrev pub TurnFine : List Outcome → Turn Held Note → Type 0
TurnFine os stops = Unit {0}
TurnFine os (goes k es h) = LeadsTo os es h

-- ---- tests of answers and instantiation fail otherwise

abbrev NotFault : Option End → Type 0
NotFault = EndIs (λ e. is_device_fault e ≡ false)

fault_not : (results : List ValType) (size : ℕ) (plan : Plan) (start : Bool) (import : ℕ) (a : Answer) → NotFault (fault_of results size plan start import a)
fault_not results size plan start import a =
    fault_is (λ e. is_device_fault e ≡ false) (record { value = λ i v. refl; poke = λ at len. refl; start = λ i. refl }) results size plan start import a (λ h. refl)

abbrev NotFailed : Opening → Type 0
NotFailed = OpeningIs (λ e. is_device_fault e ≡ false)

opening_not : (m : Module) (imports : List Value) → NotFailed (opening m imports)
opening_not = opening_is (λ e. is_device_fault e ≡ false) (record { limit = λ entries found. refl; elements = λ i. refl; bytes = λ i. refl })

-- ---- moves

-- a move that tells nothing, and takes no outcome
quiet_to : (os : List Outcome) (h : Held) → TakesTo os [] h → LeadsTo os [] h
quiet_to os h t = record { fine = (tt, tt); unparked = tt; takes = t }

none_taken : (os : List Outcome) → Takes os [] os
none_taken os = ([], refl, refl)

-- where the entries may be over
pub on_fine : (s : Store) (l : Left) (es : List Entry) → LeadsTo l.outcomes (done_notes s es) (held_on s l es)
on_fine s l [] = record { fine = (refl, (tt, tt)); unparked = (refl, tt); takes = tt }
on_fine s l (e ∷ es) = quiet_to l.outcomes (free s l) (none_taken l.outcomes)

module _ (p : Module) (x : Exports) (plan : Plan) where
  broken_fine : (os : List Outcome) (k rule : ℕ) (s : Store) → TurnFine os (broken k rule s)
  broken_fine os k rule s = record { fine = (refl, (tt, tt)); unparked = (refl, tt); takes = tt }

  back_fine : (k : ℕ) (task : Task) (results : List Value) (s : Store) (l : Left) → TurnFine l.outcomes (held_back k task results s l)
  back_fine k the_start results s l = on_fine s l l.entries
  back_fine k (an_entry e) results s l = by_entries l.entries
    where
      by_entries : (es : List Entry) → LeadsTo l.outcomes (note (returned l.number (value_of_results results)) s ∷ done_notes s es) (held_on s (next_entry l) es)
      by_entries [] = record { fine = (refl, (refl, (tt, tt))); unparked = (refl, (refl, tt)); takes = tt }
      by_entries (e ∷ es) = record { fine = (refl, (tt, tt)); unparked = (refl, tt); takes = ([], refl, refl) }

  given_fine : (k import : ℕ) (args : List Value) (who : Asker) (l : Left) (a : Answer) (said : Said) (s : Store) (pause : Option ℕ)
      → TurnFine (given a ∷ l.outcomes) (held_given k (call_note import args (store_at who) (stack_at p who) pause) said s l who)
  given_fine k import args (inside task c) l a (S.Value v) s pause =
      record { fine = (refl, (refl, (tt, tt))); unparked = (refl, (refl, tt)); takes = (given a ∷ [], refl, refl) }
  given_fine k import args (outermost old) l a (S.Value v) s pause = by_entries l.entries
    where
      by_entries : (es : List Entry) → LeadsTo (given a ∷ l.outcomes) (call_note import args old [] pause ∷ note (answered (S.Value v)) s ∷ done_notes s es) (held_on s l es)
      by_entries [] = record { fine = (refl, (refl, (refl, (tt, tt)))); unparked = (refl, (refl, (refl, tt))); takes = tt }
      by_entries (e ∷ es) = record { fine = (refl, (refl, (tt, tt))); unparked = (refl, (refl, tt)); takes = (given a ∷ [], refl, refl) }
  given_fine k import args who l a S.Trap s pause = record { fine = (refl, (refl, (refl, (tt, tt)))); unparked = (refl, (refl, (refl, tt))); takes = tt }

  pauses_fine : (k import : ℕ) (args : List Value) (who : Asker) (l : Left) (a : Answer) (pause : Option ℕ)
      → TurnFine (given a ∷ l.outcomes) (held_pauses x plan k (call_note import args (store_at who) (stack_at p who) pause) import a l who)
  pauses_fine k import args (inside (an_entry e) c) l a pause = record { fine = (refl, (tt, tt)); unparked = (refl, tt); takes = (given a ∷ [], refl, refl) }
  pauses_fine k import args (inside the_start c) l a pause = tt
  pauses_fine k import args (outermost s) l a pause = tt

  tested_fine : (k import : ℕ) (args : List Value) (who : Asker) (l : Left) (a : Answer) (o : Option End) (pause : Option ℕ) → NotFault o
      → TurnFine (given a ∷ l.outcomes) (held_tested p x plan k import args who l a o pause)
  tested_fine k import args who l a (Some e) pause h = record { fine = (refl, (h, (tt, tt))); unparked = (refl, (refl, tt)); takes = tt }
  tested_fine k import args who l a None None h = given_fine k import args who l a a.said (poked (store_at who) a.pokes) None
  tested_fine k import args who l a None (Some ticks) h = pauses_fine k import args who l a (Some ticks)

  asked_fine : (k import : ℕ) (args : List Value) (who : Asker) (l : Left) (os : List Outcome) → TurnFine os (held_asked p x plan k import args who l os)
  asked_fine k import args who l [] = record { fine = (refl, tt); unparked = (refl, tt); takes = tt }
  asked_fine k import args who l (refused e ∷ os) = record { fine = (refl, (λ h. refl, (tt, tt))); unparked = (refl, (refl, tt)); takes = tt }
  asked_fine k import args who l (given a ∷ os) =
      tested_fine k import args who (with_outcomes l os) a (fault_of (func_type_at p import).results (length (store_at who).memory) plan (in_start who) import a) (pause_of a.ticks)
      (fault_not (func_type_at p import).results (length (store_at who).memory) plan (in_start who) import a)

  traps_fine : (os : List Outcome) (k : ℕ) (ph : Phase) (trap : Trap) (s : Store) → LeadsTo os (note (ended (trap_end plan.area ph trap s)) s ∷ []) (over s)
  traps_fine os k (is_running task) trap s = record { fine = (refl, (tt, tt)); unparked = (refl, tt); takes = tt }
  traps_fine os k (unwinds e i a) trap s = record { fine = (refl, (tt, tt)); unparked = (refl, tt); takes = tt }
  traps_fine os k (rewinds e i a sp) trap s = record { fine = (refl, (tt, tt)); unparked = (refl, tt); takes = tt }

  either_fine : (os : List Outcome) (b : Bool) (a c : Turn Held Note) → TurnFine os a → TurnFine os c → TurnFine os (if b then a else c)
  either_fine os true a c f g = f
  either_fine os false a c f g = g

  busy_fine : (ph : Phase) (l : Left) (o : Next) → TurnFine l.outcomes (busy_step p x plan ph l o)
  busy_fine ph l (steps k d) = quiet_to l.outcomes (busy ph d l) (none_taken l.outcomes)
  busy_fine (is_running task) l (asks k import args d) = asked_fine k import args (inside task d) l l.outcomes
  busy_fine (unwinds e i a) l (asks k import args d) = broken_fine l.outcomes k 1 d.store
  busy_fine (rewinds e i a sp) l (asks k import args d) =
      either_fine l.outcomes (nat_eq import i) _ _
      (quiet_to l.outcomes (calling (rewinds e i a sp) d.store x.get_state [] (test_rewound d) l) (none_taken l.outcomes)) (broken_fine l.outcomes k 3 d.store)
  busy_fine (is_running task) l (returns k results s) = back_fine k task results s l
  busy_fine (unwinds e i a) l (returns k results s) = record { fine = (tt, tt); unparked = tt; takes = ([], refl, refl) }
  busy_fine (rewinds e i a sp) l (returns k results s) = broken_fine l.outcomes k 5 s
  busy_fine ph l (traps k trap s) = traps_fine l.outcomes k ph trap s
  busy_fine ph l stuck = tt

  resumed_fine : (k : ℕ) (e : Entry) (said : Said) (sp : Store) (c : Configuration) (l : Left) (s : Store) → TurnFine l.outcomes (held_resumed k e said sp c l s)
  resumed_fine k e (S.Value v) sp c l s = record { fine = (refl, (tt, tt)); unparked = (refl, tt); takes = ([], refl, refl) }
  resumed_fine k e S.Trap sp c l s = record { fine = (refl, (refl, (tt, tt))); unparked = (refl, (refl, tt)); takes = tt }

  back_aside_fine : (k : ℕ) (ph : Phase) (th : Then) (l : Left) (results : List Value) (s : Store) → TurnFine l.outcomes (aside_back p x plan k ph th l results s)
  back_aside_fine k (unwinds e i a) (give_zero c) l results s = record { fine = (tt, tt); unparked = tt; takes = ([], refl, refl) }
  back_aside_fine k (unwinds e i a) test_unwound l results s =
      either_fine l.outcomes (is_state 1 results) _ _
      (quiet_to l.outcomes (calling (unwinds e i a) s x.stop_unwind [] pause_there l) (none_taken l.outcomes)) (broken_fine l.outcomes k 2 s)
  back_aside_fine k (unwinds e i a) pause_there l results s = record { fine = (refl, (tt, tt)); unparked = (refl, tt); takes = ([], refl, refl) }
  back_aside_fine k (rewinds e i a sp) call_again l results s = record { fine = (tt, tt); unparked = tt; takes = ([], refl, refl) }
  back_aside_fine k (rewinds e i a sp) (test_rewound c) l results s =
      either_fine l.outcomes (is_state 2 results) _ _
      (quiet_to l.outcomes (calling (rewinds e i a sp) s x.stop_rewind [] (give_answer c) l) (none_taken l.outcomes)) (broken_fine l.outcomes k 4 s)
  back_aside_fine k (rewinds e i a sp) (give_answer c) l results s = resumed_fine k e a.said sp c l (poked s a.pokes)
  back_aside_fine k (is_running task) th l results s = tt
  back_aside_fine k (unwinds e i a) call_again l results s = tt
  back_aside_fine k (unwinds e i a) (test_rewound c) l results s = tt
  back_aside_fine k (unwinds e i a) (give_answer c) l results s = tt
  back_aside_fine k (rewinds e i a sp) (give_zero c) l results s = tt
  back_aside_fine k (rewinds e i a sp) test_unwound l results s = tt
  back_aside_fine k (rewinds e i a sp) pause_there l results s = tt

  aside_fine : (ph : Phase) (th : Then) (l : Left) (o : Next) → TurnFine l.outcomes (aside_step p x plan ph th l o)
  aside_fine ph th l (steps k d) = quiet_to l.outcomes (aside ph d th l) (none_taken l.outcomes)
  aside_fine ph th l (asks k import args d) = broken_fine l.outcomes k 6 d.store
  aside_fine ph th l (returns k results s) = back_aside_fine k ph th l results s
  aside_fine ph th l (traps k trap s) = traps_fine l.outcomes k ph trap s
  aside_fine ph th l stuck = tt

  enters_fine : (ph : Phase) (e : Entry) (s : Store) (l : Left) (o : Option Func) → TurnFine l.outcomes (busy_enters ph e s l o)
  enters_fine ph e s l None = tt
  enters_fine ph e s l (Some f) = record { fine = (tt, tt); unparked = tt; takes = ([], refl, refl) }

  next_fine : (s : Store) (l : Left) (es : List Entry) → TurnFine l.outcomes (held_next p s l es)
  next_fine s l [] = tt
  next_fine s l (e ∷ es) = enters_fine (is_running (an_entry e)) e s (record { number = l.number; entries = es; outcomes = l.outcomes }) (defined_at p e.func)

  called_fine : (ph : Phase) (s : Store) (f : ℕ) (args : List Value) (th : Then) (l : Left) (o : Option Func) → TurnFine l.outcomes (aside_called ph s f args th l o)
  called_fine ph s f args th l None = tt
  called_fine ph s f args th l (Some g) = record { fine = (tt, tt); unparked = tt; takes = ([], refl, refl) }

  start_fine : (f : ℕ) (s : Store) (l : Left) (o : Option Func) → TurnFine l.outcomes (held_start p x plan f s l o)
  start_fine f s l (Some g) = record { fine = (tt, tt); unparked = tt; takes = ([], refl, refl) }
  start_fine f s l None = either_fine l.outcomes (nat_lt f (func_imports p)) _ _ (asked_fine 0 f [] (outermost s) l l.outcomes) tt

  -- one move
  pub turn_fine : (h : Held) → TurnFine (left_in h) (protocol p x plan h)
  turn_fine (free s l) = next_fine s l l.entries
  turn_fine (starting f s l) = start_fine f s l (defined_at p f)
  turn_fine (busy ph c l) = busy_fine ph l (step p c)
  turn_fine (calling ph s f args th l) = called_fine ph s f args th l (defined_at p f)
  turn_fine (aside ph c th l) = aside_fine ph th l (step p c)
  turn_fine (entering ph e s l) = enters_fine ph e s l (defined_at p e.func)
  turn_fine (over s) = tt

-- instantiation
begun_so : (start : Option ℕ) (l : Left) (o : Opening) → NotFailed o → LeadsTo l.outcomes (held_begun start l o).events (held_begun start l o).last
begun_so start l (fails_as e) h = record { fine = (h, (tt, tt)); unparked = (refl, tt); takes = tt }
begun_so None l (opens s) h = on_fine s l l.entries
begun_so (Some f) l (opens s) h = quiet_to l.outcomes (starting f s l) (none_taken l.outcomes)

pub begun_fine : (m : Module) (imports : List Value) (l : Left) → LeadsTo l.outcomes (held_begun m.start l (opening m imports)).events (held_begun m.start l (opening m imports)).last
begun_fine m imports l = begun_so m.start l (opening m imports) (opening_not m imports)
