-- A run under the protocol tells a device's failure nowhere but behind a call that was refused so.
use Rattle.std.proofs.Common.{arith, ◌≡◌, ◌+◌, ◌-◌, ℕ, zero, suc, List, [], ◌∷◌, ◌++◌, length, Option, Some, None, Bool, true, false, refl, sym, ap, ◌∙◌, subst, append_assoc, append-nil}
use Rattle.std.specs.Prelude.{nat_lt, nat_eq, if◌then◌else◌, slice_get}
use Rattle.wa_types.specs.declared.values.ValType.{ValType}
use Rattle.wa_types.specs.declared.values.Value.{Value}
use Rattle.wa_types.specs.declared.values.Trap.{Trap}
use Rattle.wa_types.specs.Syntax.{Func, Module}
use Rattle.wa_types.specs.Modules.{func_imports, func_type_at, defined_at}
use Rattle.wa_model.specs.declared.answers.Area.{Area}
use Rattle.wa_model.specs.declared.answers.Said.{Said}
use Rattle.wa_model.specs.declared.answers.Said.TheVariants as S
use Rattle.wa_model.specs.declared.events.End.{End}
use Rattle.wa_model.specs.Outside.{Call, Answer, Event, called, answered, paused, parked, returned, ended, shown}
use Rattle.wa_model.specs.Machine.{Turn, stops, goes, Ran, after, still, pay, run_with, run}
use Rattle.wa_model.specs.Store.{Store}
use Rattle.wa_model.specs.Configuration.{Configuration}
use Rattle.wa_model.specs.Step.{Next, steps, asks, returns, traps, stuck, step}
use Rattle.wa_model.specs.Plan.{Entry, Plan, Outcome, given, refused}
use Rattle.wa_model.specs.Instantiation.{Opening, fails_as, opens, opening}
use Rattle.wa_model.specs.Blocking.{Note, note, call_note, value_of_results, fault_of, pause_of, poked, done_notes, Task, the_start, an_entry, Left, with_outcomes, Asker, inside, outermost, store_at, stack_at, in_start, next_entry, all_left}
use Rattle.wa_model.specs.Protocol.{Exports, exports_of, Phase, is_running, unwinds, rewinds, Then, give_zero, test_unwound, pause_there, call_again, test_rewound, give_answer, Held, free, starting, busy, calling, aside, entering, over, trap_end, broken, held_on, held_back, held_given, held_pauses, held_resumed, held_tested, held_asked, busy_step, is_state, aside_back, aside_step, busy_enters, held_next, aside_called, held_start, protocol, held_begun, held_continued}
use Rattle.world_model.specs.World.{Halt, Origin, Program, at_pause, at_start, call_in, gone, halted, halted_in, protocol_story, story_from, told_by, unless_over}
use Rattle.world_laws.specs.Originals.{one_if, new_calls}
use Rattle.world_laws.proofs.Counting.{over_still}
use Rattle.world_laws.specs.Replays.{is_device_fault, is_fault}
use Rattle.run_theory.proofs.TestedEnds.{EndIs, fault_is, OpeningIs, opening_is}

-- ---- notes

-- the first of these isn't a fault
abbrev pub Opens : List Note → Type 0
Opens [] = Unit {0}
Opens (x ∷ xs) = is_fault x.event ≡ false

-- a fault that is told is this end
abbrev pub FaultIs : End → Event → Type 0
FaultIs e (ended how) = is_device_fault how ≡ true → how ≡ e
FaultIs e _ = Unit {0}

abbrev pub OpensAs : End → List Note → Type 0
OpensAs e [] = Unit {0}
OpensAs e (x ∷ xs) = FaultIs e x.event

abbrev pub OpensIf : Outcome → List Note → Type 0
OpensIf (given a) xs = Opens xs
OpensIf (refused e) xs = OpensAs e xs

-- behind a call that is refused no other fault follows than that end, and elsewhere none does
abbrev pub AtCall : Option Call → List Outcome → List Note → (List Outcome → Type 0) → Type 0
AtCall None os xs rest = Opens xs × rest os
AtCall (Some c) [] xs rest = rest []
AtCall (Some c) (o ∷ os) xs rest = OpensIf o xs × rest os

abbrev pub Inner : List Outcome → List Note → Type 0
Inner os [] = Unit {0}
Inner os (x ∷ xs) = AtCall (call_in x.event) os xs (λ os. Inner os xs)

abbrev pub Fine : List Outcome → List Note → Type 0
Fine os xs = Opens xs × Inner os xs

opens_on : (xs ys : List Note) → Opens xs → Opens ys → Opens (xs ++ ys)
opens_on [] ys h k = k
opens_on (x ∷ xs) ys h k = h

no_fault_is : (e : End) (v : Event) → is_fault v ≡ false → FaultIs e v
no_fault_is e (ended how) h = λ k. let bad : true ≡ false = sym k ∙ h in absurd cc
no_fault_is e (called c) h = tt
no_fault_is e (answered v) h = tt
no_fault_is e (paused t u) h = tt
no_fault_is e (returned i v) h = tt
no_fault_is e (parked used) h = tt
no_fault_is e (shown a b) h = tt

opens_as : (e : End) (xs : List Note) → Opens xs → OpensAs e xs
opens_as e [] h = tt
opens_as e (x ∷ xs) h = no_fault_is e x.event h

opens_if_on : (o : Outcome) (xs ys : List Note) → OpensIf o xs → Opens ys → OpensIf o (xs ++ ys)
opens_if_on (given a) xs ys h k = opens_on xs ys h k
opens_if_on (refused e) [] ys h k = opens_as e ys k
opens_if_on (refused e) (x ∷ xs) ys h k = h

-- notes, and those behind them, where each call took an outcome
inner_on : (used os : List Outcome) (xs ys : List Note) → length used ≡ new_calls xs → Inner (used ++ os) xs → Fine os ys → Inner (used ++ os) (xs ++ ys)
inner_on [] os [] ys e h k = k.1
inner_on (u ∷ used) os [] ys e h k = let no_way : ⊥ = omega arith in absurd no_way
inner_on used os (x ∷ xs) ys e h k = by_call (λ vs f g. inner_on vs os xs ys f g k) (call_in x.event) used refl e h
  where
    by_call : ((vs : List Outcome) → length vs ≡ new_calls xs → Inner (vs ++ os) xs → Inner (vs ++ os) (xs ++ ys)) → (c : Option Call) (vs : List Outcome) → call_in x.event ≡ c
        → length vs ≡ new_calls (x ∷ xs) → AtCall c (vs ++ os) xs (λ us. Inner us xs) → AtCall c (vs ++ os) (xs ++ ys) (λ us. Inner us (xs ++ ys))
    by_call on None vs z f g = (opens_on xs ys g.0 k.0, on vs (f ∙ ap (λ (c : Option Call). one_if c + new_calls xs) z ∙ nothing) g.1)
      where
        nothing : 0 + new_calls xs ≡ new_calls xs
        nothing = omega arith
    by_call on (Some c) [] z f g =
        let one : new_calls (x ∷ xs) ≡ 1 + new_calls xs = ap (λ (c : Option Call). one_if c + new_calls xs) z in
        let no_way : ⊥ = omega arith in absurd no_way
    by_call on (Some c) (v ∷ vs) z f g =
        let one : new_calls (x ∷ xs) ≡ 1 + new_calls xs = ap (λ (c : Option Call). one_if c + new_calls xs) z in
        (opens_if_on v xs ys g.0 k.0, on vs (omega arith) g.1)

fine_on : (used os : List Outcome) (xs ys : List Note) → length used ≡ new_calls xs → Fine (used ++ os) xs → Fine os ys → Fine (used ++ os) (xs ++ ys)
fine_on used os xs ys e h k = (opens_on xs ys h.0 k.0, inner_on used os xs ys e h.1 k)

-- behind notes whose calls took these outcomes a call that is given an answer is followed by no fault
pub opens_behind : (pre os : List Outcome) (done : List Note) (x : Note) (xs : List Note) (c : Call) (a : Answer) → new_calls done ≡ length pre → x.event ≡ called c
    → Inner (pre ++ given a ∷ os) (done ++ x ∷ xs) → Opens xs
opens_behind [] os [] x xs c a e is h = (subst (λ (v : Event). AtCall (call_in v) (given a ∷ os) xs (λ us. Inner us xs)) is h).0
opens_behind (p ∷ pre) os [] x xs c a e is h = let no_way : ⊥ = omega arith in absurd no_way
opens_behind pre os (y ∷ done) x xs c a e is h = by_call (λ vs f g. opens_behind vs os done x xs c a f is g) (call_in y.event) pre refl e h
  where
    by_call : ((vs : List Outcome) → new_calls done ≡ length vs → Inner (vs ++ given a ∷ os) (done ++ x ∷ xs) → Opens xs) → (o : Option Call) (vs : List Outcome) → call_in y.event ≡ o
        → new_calls (y ∷ done) ≡ length vs → AtCall o (vs ++ given a ∷ os) (done ++ x ∷ xs) (λ us. Inner us (done ++ x ∷ xs)) → Opens xs
    by_call on None vs z f g =
        let none : new_calls (y ∷ done) ≡ 0 + new_calls done = ap (λ (c : Option Call). one_if c + new_calls done) z in
        on vs (omega arith) g.1
    by_call on (Some c) [] z f g =
        let one : new_calls (y ∷ done) ≡ 1 + new_calls done = ap (λ (c : Option Call). one_if c + new_calls done) z in
        let no_way : ⊥ = omega arith in absurd no_way
    by_call on (Some c) (v ∷ vs) z f g =
        let one : new_calls (y ∷ done) ≡ 1 + new_calls done = ap (λ (c : Option Call). one_if c + new_calls done) z in
        on vs (omega arith) g.1

-- ---- tests of answers fail otherwise

abbrev NotFault : Option End → Type 0
NotFault = EndIs (λ e. is_device_fault e ≡ false)

fault_not : (results : List ValType) (size : ℕ) (plan : Plan) (start : Bool) (import : ℕ) (a : Answer) → NotFault (fault_of results size plan start import a)
fault_not results size plan start import a =
    fault_is (λ e. is_device_fault e ≡ false) (record { value = λ i v. refl; poke = λ at len. refl; start = λ i. refl }) results size plan start import a (λ h. refl)

-- instantiation fails otherwise too
abbrev NotFailed : Opening → Type 0
NotFailed = OpeningIs (λ e. is_device_fault e ≡ false)

opening_not : (m : Module) (imports : List Value) → NotFailed (opening m imports)
opening_not = opening_is (λ e. is_device_fault e ≡ false) (record { limit = λ entries found. refl; elements = λ i. refl; bytes = λ i. refl })

-- ---- the machine

abbrev left_in : Held → List Outcome
left_in (free s l) = l.outcomes
left_in (starting f s l) = l.outcomes
left_in (busy ph c l) = l.outcomes
left_in (calling ph s f args th l) = l.outcomes
left_in (aside ph c th l) = l.outcomes
left_in (entering ph e s l) = l.outcomes
left_in (over s) = []

-- a state with these outcomes left, behind notes that took the others
abbrev Takes : List Outcome → List Note → List Outcome → Type 0
Takes os xs left = (used : List Outcome) × (os ≡ used ++ left) × (length used ≡ new_calls xs)

abbrev LeadsTo : List Outcome → List Note → Held → Type 0
LeadsTo os xs (free s l) = Fine os xs × Takes os xs l.outcomes
LeadsTo os xs (starting f s l) = Fine os xs × Takes os xs l.outcomes
LeadsTo os xs (busy ph c l) = Fine os xs × Takes os xs l.outcomes
LeadsTo os xs (calling ph s f args th l) = Fine os xs × Takes os xs l.outcomes
LeadsTo os xs (aside ph c th l) = Fine os xs × Takes os xs l.outcomes
LeadsTo os xs (entering ph e s l) = Fine os xs × Takes os xs l.outcomes
LeadsTo os xs (over s) = Fine os xs

abbrev TurnFine : List Outcome → Turn Held Note → Type 0
TurnFine os stops = Unit {0}
TurnFine os (goes k es t) = LeadsTo os es t

quiet : (os : List Outcome) → Fine os [] × Takes os [] os
quiet os = ((tt, tt), ([], refl, refl))

module _ (p : Module) (x : Exports) (plan : Plan) where
  on_fine : (s : Store) (l : Left) (es : List Entry) → LeadsTo l.outcomes (done_notes s es) (held_on s l es)
  on_fine s l [] = (refl, (tt, tt))
  on_fine s l (e ∷ es) = quiet l.outcomes

  back_fine : (k : ℕ) (task : Task) (results : List Value) (s : Store) (l : Left) → TurnFine l.outcomes (held_back k task results s l)
  back_fine k the_start results s l = on_fine s l l.entries
  back_fine k (an_entry e) results s l = by_entries l.entries
    where
      by_entries : (es : List Entry) → LeadsTo l.outcomes (note (returned l.number (value_of_results results)) s ∷ done_notes s es) (held_on s (next_entry l) es)
      by_entries [] = (refl, (refl, (tt, tt)))
      by_entries (e ∷ es) = ((refl, (tt, tt)), ([], refl, refl))

  given_fine : (k import : ℕ) (args : List Value) (who : Asker) (l : Left) (a : Answer) (said : Said) (s : Store) (pause : Option ℕ)
      → TurnFine (given a ∷ l.outcomes) (held_given k (call_note import args (store_at who) (stack_at p who) pause) said s l who)
  given_fine k import args (inside task c) l a (S.Value v) s pause = ((refl, (refl, (tt, tt))), (given a ∷ [], refl, refl))
  given_fine k import args (outermost old) l a (S.Value v) s pause = by_entries l.entries
    where
      by_entries : (es : List Entry) → LeadsTo (given a ∷ l.outcomes) (call_note import args old [] pause ∷ note (answered (S.Value v)) s ∷ done_notes s es) (held_on s l es)
      by_entries [] = (refl, (refl, (refl, (tt, tt))))
      by_entries (e ∷ es) = ((refl, (refl, (tt, tt))), (given a ∷ [], refl, refl))
  given_fine k import args who l a S.Trap s pause = (refl, (refl, (refl, (tt, tt))))

  pauses_fine : (k import : ℕ) (args : List Value) (who : Asker) (l : Left) (a : Answer) (pause : Option ℕ)
      → TurnFine (given a ∷ l.outcomes) (held_pauses x plan k (call_note import args (store_at who) (stack_at p who) pause) import a l who)
  pauses_fine k import args (inside (an_entry e) c) l a pause = ((refl, (tt, tt)), (given a ∷ [], refl, refl))
  pauses_fine k import args (inside the_start c) l a pause = tt
  pauses_fine k import args (outermost s) l a pause = tt

  tested_fine : (k import : ℕ) (args : List Value) (who : Asker) (l : Left) (a : Answer) (o : Option End) (pause : Option ℕ) → NotFault o
      → TurnFine (given a ∷ l.outcomes) (held_tested p x plan k import args who l a o pause)
  tested_fine k import args who l a (Some e) pause h = (refl, (h, (tt, tt)))
  tested_fine k import args who l a None None h = given_fine k import args who l a a.said (poked (store_at who) a.pokes) None
  tested_fine k import args who l a None (Some ticks) h = pauses_fine k import args who l a (Some ticks)

  asked_fine : (k import : ℕ) (args : List Value) (who : Asker) (l : Left) (os : List Outcome) → TurnFine os (held_asked p x plan k import args who l os)
  asked_fine k import args who l [] = (refl, tt)
  asked_fine k import args who l (refused e ∷ os) = (refl, (λ h. refl, (tt, tt)))
  asked_fine k import args who l (given a ∷ os) =
      tested_fine k import args who (with_outcomes l os) a (fault_of (func_type_at p import).results (length (store_at who).memory) plan (in_start who) import a) (pause_of a.ticks)
      (fault_not (func_type_at p import).results (length (store_at who).memory) plan (in_start who) import a)

  trap_fine : (area : Area) (ph : Phase) (trap : Trap) (s : Store) → is_fault (ended (trap_end area ph trap s)) ≡ false
  trap_fine area (is_running task) trap s = refl
  trap_fine area (unwinds e i a) trap s = refl
  trap_fine area (rewinds e i a sp) trap s = refl

  busy_fine : (ph : Phase) (l : Left) (o : Next) → TurnFine l.outcomes (busy_step p x plan ph l o)
  busy_fine (is_running task) l (steps k d) = quiet l.outcomes
  busy_fine (unwinds e i a) l (steps k d) = quiet l.outcomes
  busy_fine (rewinds e i a sp) l (steps k d) = quiet l.outcomes
  busy_fine (is_running task) l (asks k import args d) = asked_fine k import args (inside task d) l l.outcomes
  busy_fine (unwinds e i a) l (asks k import args d) = (refl, (tt, tt))
  busy_fine (rewinds e i a sp) l (asks k import args d) = by_import (nat_eq import i)
    where
      by_import : (b : Bool) → TurnFine l.outcomes (if b then goes k [] (calling (rewinds e i a sp) d.store x.get_state [] (test_rewound d) l) else broken k 3 d.store)
      by_import true = quiet l.outcomes
      by_import false = (refl, (tt, tt))
  busy_fine (is_running task) l (returns k results s) = back_fine k task results s l
  busy_fine (unwinds e i a) l (returns k results s) = quiet l.outcomes
  busy_fine (rewinds e i a sp) l (returns k results s) = (refl, (tt, tt))
  busy_fine (is_running task) l (traps k trap s) = (trap_fine plan.area (is_running task) trap s, (tt, tt))
  busy_fine (unwinds e i a) l (traps k trap s) = (trap_fine plan.area (unwinds e i a) trap s, (tt, tt))
  busy_fine (rewinds e i a sp) l (traps k trap s) = (trap_fine plan.area (rewinds e i a sp) trap s, (tt, tt))
  busy_fine (is_running task) l stuck = tt
  busy_fine (unwinds e i a) l stuck = tt
  busy_fine (rewinds e i a sp) l stuck = tt

  resumed_fine : (k : ℕ) (e : Entry) (said : Said) (sp : Store) (c : Configuration) (l : Left) (s : Store) → TurnFine l.outcomes (held_resumed k e said sp c l s)
  resumed_fine k e (S.Value v) sp c l s = ((refl, (tt, tt)), ([], refl, refl))
  resumed_fine k e S.Trap sp c l s = (refl, (refl, (tt, tt)))

  back_aside_fine : (k : ℕ) (ph : Phase) (th : Then) (l : Left) (results : List Value) (s : Store) → TurnFine l.outcomes (aside_back p x plan k ph th l results s)
  back_aside_fine k (unwinds e i a) (give_zero c) l results s = quiet l.outcomes
  back_aside_fine k (unwinds e i a) test_unwound l results s = by_state (is_state 1 results)
    where
      by_state : (b : Bool) → TurnFine l.outcomes (if b then goes k [] (calling (unwinds e i a) s x.stop_unwind [] pause_there l) else broken k 2 s)
      by_state true = quiet l.outcomes
      by_state false = (refl, (tt, tt))
  back_aside_fine k (unwinds e i a) pause_there l results s = ((refl, (tt, tt)), ([], refl, refl))
  back_aside_fine k (rewinds e i a sp) call_again l results s = quiet l.outcomes
  back_aside_fine k (rewinds e i a sp) (test_rewound c) l results s = by_state (is_state 2 results)
    where
      by_state : (b : Bool) → TurnFine l.outcomes (if b then goes k [] (calling (rewinds e i a sp) s x.stop_rewind [] (give_answer c) l) else broken k 4 s)
      by_state true = quiet l.outcomes
      by_state false = (refl, (tt, tt))
  back_aside_fine k (rewinds e i a sp) (give_answer c) l results s = resumed_fine k e a.said sp c l (poked s a.pokes)
  back_aside_fine k (is_running task) th l results s = tt
  back_aside_fine k (unwinds e i a) call_again l results s = tt
  back_aside_fine k (unwinds e i a) (test_rewound c) l results s = tt
  back_aside_fine k (unwinds e i a) (give_answer c) l results s = tt
  back_aside_fine k (rewinds e i a sp) (give_zero c) l results s = tt
  back_aside_fine k (rewinds e i a sp) test_unwound l results s = tt
  back_aside_fine k (rewinds e i a sp) pause_there l results s = tt

  aside_fine : (ph : Phase) (th : Then) (l : Left) (o : Next) → TurnFine l.outcomes (aside_step p x plan ph th l o)
  aside_fine ph th l (steps k d) = quiet l.outcomes
  aside_fine ph th l (asks k import args d) = (refl, (tt, tt))
  aside_fine ph th l (returns k results s) = back_aside_fine k ph th l results s
  aside_fine ph th l (traps k trap s) = (trap_fine plan.area ph trap s, (tt, tt))
  aside_fine ph th l stuck = tt

  enters_fine : (ph : Phase) (e : Entry) (s : Store) (l : Left) (o : Option Func) → TurnFine l.outcomes (busy_enters ph e s l o)
  enters_fine ph e s l None = tt
  enters_fine ph e s l (Some f) = quiet l.outcomes

  next_fine : (s : Store) (l : Left) (es : List Entry) → TurnFine l.outcomes (held_next p s l es)
  next_fine s l [] = tt
  next_fine s l (e ∷ es) = enters_fine (is_running (an_entry e)) e s (record { number = l.number; entries = es; outcomes = l.outcomes }) (defined_at p e.func)

  called_fine : (ph : Phase) (s : Store) (f : ℕ) (args : List Value) (th : Then) (l : Left) (o : Option Func) → TurnFine l.outcomes (aside_called ph s f args th l o)
  called_fine ph s f args th l None = tt
  called_fine ph s f args th l (Some g) = quiet l.outcomes

  start_fine : (f : ℕ) (s : Store) (l : Left) (o : Option Func) → TurnFine l.outcomes (held_start p x plan f s l o)
  start_fine f s l (Some g) = quiet l.outcomes
  start_fine f s l None = by_import (nat_lt f (func_imports p))
    where
      by_import : (b : Bool) → TurnFine l.outcomes (if b then held_asked p x plan 0 f [] (outermost s) l l.outcomes else stops)
      by_import true = asked_fine 0 f [] (outermost s) l l.outcomes
      by_import false = tt

  turn_fine : (t : Held) → TurnFine (left_in t) (protocol p x plan t)
  turn_fine (free s l) = next_fine s l l.entries
  turn_fine (starting f s l) = start_fine f s l (defined_at p f)
  turn_fine (busy ph c l) = busy_fine ph l (step p c)
  turn_fine (calling ph s f args th l) = called_fine ph s f args th l (defined_at p f)
  turn_fine (aside ph c th l) = aside_fine ph th l (step p c)
  turn_fine (entering ph e s l) = enters_fine ph e s l (defined_at p e.func)
  turn_fine (over s) = tt

  -- ---- runs

  -- of a state, and what is still to come from it: where it is over nothing is, else the notes of its run and one more
  abbrev tail_of : ℕ → Ran Held Note → List Note
  tail_of n r = r.events ++ unless_over n r.last

  stays_fine : (n : ℕ) (t : Held) → Fine (left_in t) (unless_over n t)
  stays_fine n (free s l) = (refl, (tt, tt))
  stays_fine n (starting f s l) = (refl, (tt, tt))
  stays_fine n (busy ph c l) = (refl, (tt, tt))
  stays_fine n (calling ph s f args th l) = (refl, (tt, tt))
  stays_fine n (aside ph c th l) = (refl, (tt, tt))
  stays_fine n (entering ph e s l) = (refl, (tt, tt))
  stays_fine n (over s) = (tt, tt)

  behind_takes : (os left : List Outcome) (es fs : List Note) → Fine os es → Takes os es left → Fine left fs → Fine os (es ++ fs)
  behind_takes os left es fs h t k =
      subst (λ (us : List Outcome). Fine us (es ++ fs)) (sym t.1) (fine_on t.0 left es fs t.2 (subst (λ (us : List Outcome). Fine us es) t.1 h) k)

  behind_fine : (n : ℕ) (os : List Outcome) (es : List Note) (u : Held) (r : Ran Held Note) → LeadsTo os es u → Fine (left_in u) (tail_of n r) → ((s : Store) → u ≡ over s → r ≡ still u)
      → Fine os (es ++ tail_of n r)
  behind_fine n os es (free s l) r h k halt = behind_takes os l.outcomes es (tail_of n r) h.0 h.1 k
  behind_fine n os es (starting f s l) r h k halt = behind_takes os l.outcomes es (tail_of n r) h.0 h.1 k
  behind_fine n os es (busy ph c l) r h k halt = behind_takes os l.outcomes es (tail_of n r) h.0 h.1 k
  behind_fine n os es (calling ph s f args th l) r h k halt = behind_takes os l.outcomes es (tail_of n r) h.0 h.1 k
  behind_fine n os es (aside ph c th l) r h k halt = behind_takes os l.outcomes es (tail_of n r) h.0 h.1 k
  behind_fine n os es (entering ph e s l) r h k halt = behind_takes os l.outcomes es (tail_of n r) h.0 h.1 k
  behind_fine n os es (over s) r h k halt =
      let z : es ++ tail_of n r ≡ es = ap (λ (q : Ran Held Note). es ++ tail_of n q) (halt s refl) ∙ append-nil es in
      subst (λ (xs : List Note). Fine os xs) (sym z) h

  run_fine : (m count n : ℕ) (t : Held) → Fine (left_in t) (tail_of m (run_with (protocol p x plan) count n t))
  run_fine m zero n t = stays_fine m t
  run_fine m (suc count) n t = by_turn (protocol p x plan t) (turn_fine t) (λ k u. run_fine m count k u)
    where
      by_turn : (o : Turn Held Note) → TurnFine (left_in t) o → ((k : ℕ) (u : Held) → Fine (left_in u) (tail_of m (run_with (protocol p x plan) count k u)))
          → Fine (left_in t) (tail_of m (pay (run_with (protocol p x plan) count) n t o))
      by_turn stops w more = stays_fine m t
      by_turn (goes k es u) w more = by_cost (nat_lt k n)
        where
          rest : Ran Held Note
          rest = run_with (protocol p x plan) count (n - suc k) u

          halted : (s : Store) → u ≡ over s → rest ≡ still u
          halted s e = subst (λ (v : Held). run_with (protocol p x plan) count (n - suc k) v ≡ still v) (sym e) (over_still p x plan count (n - suc k) s)

          by_cost : (b : Bool) → Fine (left_in t) (tail_of m (if b then after es rest else still t))
          by_cost true =
              subst (λ (xs : List Note). Fine (left_in t) xs) (sym (append_assoc es rest.events (unless_over m rest.last))) (behind_fine m (left_in t) es u rest w (more (n - suc k) u) halted)
          by_cost false = stays_fine m t

  begun_fine : (start : Option ℕ) (l : Left) (o : Opening) → NotFailed o → LeadsTo l.outcomes (held_begun start l o).events (held_begun start l o).last
  begun_fine start l (fails_as e) h = (h, (tt, tt))
  begun_fine None l (opens s) h = on_fine s l l.entries
  begun_fine (Some f) l (opens s) h = quiet l.outcomes

-- a run that goes on from a state that such notes lead to
told_fine : (w : Program) (os : List Outcome) (n : ℕ) (r : Ran Held Note) → LeadsTo os r.events r.last → Fine os (told_by w.steps (held_continued w.source w.plan n r))
told_fine w os n r begins =
    let p : Module = w.source in
    let x : Exports = exports_of p in
    let rest : Ran Held Note = run (protocol p x w.plan) n r.last in
    let fine = behind_fine p x w.plan w.steps os r.events r.last rest begins (run_fine p x w.plan w.steps n n r.last)
    (λ s e. subst (λ (v : Held). run (protocol p x w.plan) n v ≡ still v) (sym e) (over_still p x w.plan n n s)) in
    subst (Fine os) (sym (append_assoc r.events rest.events (unless_over w.steps rest.last))) fine

-- A story tells a device's failure only behind a call that was refused so.
pub story_told : (w : Program) (os : List Outcome) → Fine os (protocol_story w os)
story_told w os = by w.origin
  where
    by_entry : (x : Halt) (o : Option Entry) → LeadsTo os [] (halted_in w.source w.plan x os o)
    by_entry x None = (tt, tt)
    by_entry x (Some e) = quiet os

    by : (o : Origin) → Fine os (story_from w os o)
    by at_start =
        told_fine w os w.steps (held_begun w.source.start (all_left w.plan os) (opening w.source w.plan.globals))
        (begun_fine w.source (exports_of w.source) w.plan w.source.start (all_left w.plan os) (opening w.source w.plan.globals) (opening_not w.source w.plan.globals))
    by gone = (tt, tt)
    by (at_pause x) = told_fine w os (w.steps - x.used) (still (halted w.source w.plan x os)) (by_entry x (slice_get w.plan.entries x.entry))

pub story_fine : (w : Program) (os : List Outcome) → Inner os (protocol_story w os)
story_fine w os = (story_told w os).1
