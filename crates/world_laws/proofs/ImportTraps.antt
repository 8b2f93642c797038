-- A story tells an import's trap nowhere but behind an answer that is one.
use Rattle.std.proofs.Common.{◌≡◌, ◌-◌, ◌⊎◌, inl, inr, ℕ, zero, suc, List, [], ◌∷◌, ◌++◌, length, Option, Some, None, Bool, true, false, All, refl, sym, ap, ◌∙◌}
use Rattle.std.specs.Prelude.{nat_lt, nat_eq, if◌then◌else◌, slice_get}
use Rattle.std.proofs.lemmas.List.Elements.{All-nil, All-cons, All-head, All-tail, All-weaker}
use Rattle.wa_types.specs.declared.values.ValType.{ValType}
use Rattle.wa_types.specs.declared.values.Value.{Value}
use Rattle.wa_types.specs.declared.values.Trap.{Trap}
use Rattle.wa_types.specs.declared.values.Trap.TheVariants.{Import}
use Rattle.wa_types.specs.Syntax.{Func, Module}
use Rattle.wa_types.specs.Modules.{func_imports, func_type_at, defined_at}
use Rattle.wa_model.specs.declared.answers.Area.{Area}
use Rattle.wa_model.specs.declared.answers.Said.{Said}
use Rattle.wa_model.specs.declared.answers.Said.TheVariants as S
use Rattle.wa_model.specs.declared.events.End.{End}
use Rattle.wa_model.specs.declared.events.End.TheVariants.{Done, Trapped}
use Rattle.wa_model.specs.Outside.{Answer, answered, returned, ended}
use Rattle.wa_model.specs.Machine.{Turn, stops, goes, Ran, after, still, pay, run_with, run}
use Rattle.wa_model.specs.Store.{Store}
use Rattle.wa_model.specs.Configuration.{Configuration}
use Rattle.wa_model.specs.Step.{Next, steps, asks, returns, traps, stuck, step}
use Rattle.wa_model.specs.Plan.{Entry, Plan, Outcome, given, refused}
use Rattle.wa_model.specs.Instantiation.{Opening, fails_as, opens, opening}
use Rattle.wa_model.specs.Blocking.{Note, note, call_note, value_of_results, fault_of, pause_of, poked, done_notes, Task, the_start, an_entry, Left, with_outcomes, Asker, inside, outermost, store_at, stack_at, in_start, next_entry, all_left, no_store}
use Rattle.wa_model.specs.Protocol.{Exports, exports_of, Phase, is_running, unwinds, rewinds, Then, give_zero, test_unwound, pause_there, call_again, test_rewound, give_answer, Held, free, starting, busy, calling, aside, entering, over, trap_end, broken, answer_note, held_on, held_back, held_given, held_pauses, held_resumed, held_tested, held_asked, busy_step, is_state, aside_back, aside_step, busy_enters, held_next, aside_called, held_start, protocol, held_begun, held_continued}
use Rattle.world_model.specs.World.{Halt, Origin, Program, at_pause, at_start, gone, halted, halted_in, protocol_story, story_from, told_by, unless_over}
use Rattle.run_theory.proofs.OwnTraps.{no_import_trap}
use Rattle.run_theory.proofs.TestedEnds.{EndIs, fault_is, OpeningIs, opening_is}
use Rattle.world_laws.specs.ImportTraps.{RefusesOtherwise, TrapsEnd, TrapsAreAnswers}

trapped_is : (t : Trap) → ended (Trapped t) ≡ ended (Trapped Import) → t ≡ Import
trapped_is t e = cc

ended_is : (how : End) → ended how ≡ ended (Trapped Import) → how ≡ Trapped Import
ended_is how e = cc

-- ---- ends that are none

abbrev NotImport : End → Type 0
NotImport e = e ≡ Trapped Import → ⊥

fault_not : (results : List ValType) (size : ℕ) (plan : Plan) (start : Bool) (import : ℕ) (a : Answer) → EndIs NotImport (fault_of results size plan start import a)
fault_not results size plan start import a =
    fault_is NotImport (record { value = λ i v e. cc; poke = λ at len e. cc; start = λ i e. cc }) results size plan start import a (λ h e. cc)

opening_not : (m : Module) (imports : List Value) → OpeningIs NotImport (opening m imports)
opening_not = opening_is NotImport (record { limit = λ entries found e. cc; elements = λ i e. cc; bytes = λ i e. cc })

abbrev Own : Next → Type 0
Own (traps k t s) = t ≡ Import → ⊥
Own _ = Unit {0}

step_own : (p : Module) (c : Configuration) → Own (step p c)
step_own p c = by (step p c) refl
  where
    by : (o : Next) → step p c ≡ o → Own o
    by (steps k d) e = tt
    by (asks k i args d) e = tt
    by (returns k vs s) e = tt
    by (traps k t s) e = no_import_trap p c k t s e
    by stuck e = tt

-- ---- notes, where a call may be refused as an import traps if Q

module _ (Q : Type 0) where
  -- neither an answer that is a trap nor an end by one
  abbrev Plain : Note → Type 0
  Plain x = (x.event ≡ answered S.Trap → ⊥) × (x.event ≡ ended (Trapped Import) → Q)

  -- the first isn't such an end
  abbrev Opens : List Note → Type 0
  Opens [] = Unit {0}
  Opens (x ∷ xs) = x.event ≡ ended (Trapped Import) → Q

  -- such an end stands behind such an answer, and none of those without it
  abbrev Behind : Note → List Note → Type 0
  Behind x [] = x.event ≡ answered S.Trap → ⊥
  Behind x (y ∷ ys) =
      (x.event ≡ answered S.Trap → (y.event ≡ ended (Trapped Import)) × (y.store ≡ x.store)) × (y.event ≡ ended (Trapped Import) → (x.event ≡ answered S.Trap) ⊎ Q)

  abbrev Inner : List Note → Type 0
  Inner [] = Unit {0}
  Inner (x ∷ xs) = Behind x xs × Inner xs

  abbrev Fine : List Note → Type 0
  Fine xs = Opens xs × Inner xs

  none : Fine []
  none = (tt, tt)

  opens_on : (xs ys : List Note) → Opens xs → Opens ys → Opens (xs ++ ys)
  opens_on [] ys h k = k
  opens_on (x ∷ xs) ys h k = h

  behind_on : (x : Note) (xs ys : List Note) → Behind x xs → Opens ys → Behind x (xs ++ ys)
  behind_on x [] [] h k = h
  behind_on x [] (y ∷ ys) h k = (λ e. absurd (h e), λ e. inr (k e))
  behind_on x (z ∷ xs) ys h k = h

  inner_on : (xs ys : List Note) → Inner xs → Fine ys → Inner (xs ++ ys)
  inner_on [] ys h k = k.1
  inner_on (x ∷ xs) ys h k = (behind_on x xs ys h.0 k.0, inner_on xs ys h.1 k)

  fine_on : (xs ys : List Note) → Fine xs → Fine ys → Fine (xs ++ ys)
  fine_on xs ys h k = (opens_on xs ys h.0 k.0, inner_on xs ys h.1 k)

  one : (x : Note) → Plain x → Fine (x ∷ [])
  one x h = (h.1, (h.0, tt))

  front : (x : Note) (xs : List Note) → Plain x → Fine xs → Fine (x ∷ xs)
  front x xs h k = fine_on (x ∷ []) xs (one x h) k

  -- an answer that is a trap, and its end
  trap_there : (x y : Note) → x.event ≡ answered S.Trap → y.event ≡ ended (Trapped Import) → y.store ≡ x.store → Fine (x ∷ y ∷ [])
  trap_there x y a b s = (λ e. absurd (apart (sym a ∙ e)), ((λ e. (b, s), λ e. inl a), (λ e. apart (sym e ∙ b), tt)))
    where
      apart : answered S.Trap ≡ ended (Trapped Import) → ⊥
      apart e = cc

  end_plain : (how : End) (s : Store) → (how ≡ Trapped Import → Q) → Plain (note (ended how) s)
  end_plain how s h = (λ e. cc, λ e. h (ended_is how e))

  not_plain : (how : End) (s : Store) → NotImport how → Plain (note (ended how) s)
  not_plain how s h = end_plain how s (λ e. absurd (h e))

  call_plain : (import : ℕ) (args : List Value) (who : Asker) (p : Module) (pause : Option ℕ) → Plain (call_note import args (store_at who) (stack_at p who) pause)
  call_plain import args who p pause = (λ e. cc, λ e. cc)

  -- ---- places

  pub first_is : (xs : List Note) (y : Note) → Opens xs → slice_get xs 0 ≡ Some y → y.event ≡ ended (Trapped Import) → Q
  first_is [] y h at e = cc
  first_is (x ∷ xs) y h at e = let same : x ≡ y = cc in h (ap (λ (n : Note). n.event) same ∙ e)

  pub found_before : (xs : List Note) (i : ℕ) (y : Note) → Inner xs → slice_get xs (suc i) ≡ Some y → y.event ≡ ended (Trapped Import)
      → ((x : Note) × (slice_get xs i ≡ Some x) × (x.event ≡ answered S.Trap)) ⊎ Q
  found_before [] i y h at e = cc
  found_before (x ∷ []) zero y h at e = cc
  found_before (x ∷ z ∷ xs) zero y h at e =
      let same : z ≡ y = cc in
      elim (h.0.1 (ap (λ (n : Note). n.event) same ∙ e)) [ inl a ↦ inl (x, refl, a) | inr q ↦ inr q ]
  found_before (x ∷ xs) (suc i) y h at e = found_before xs i y h.1 at e

  pub found_behind : (xs : List Note) (i : ℕ) (x : Note) → Inner xs → slice_get xs i ≡ Some x → x.event ≡ answered S.Trap
      → (y : Note) × (slice_get xs (suc i) ≡ Some y) × (y.event ≡ ended (Trapped Import)) × (y.store ≡ x.store)
  found_behind [] i x h at e = cc
  found_behind (z ∷ []) zero x h at e = let same : z ≡ x = cc in absurd (h.0 (ap (λ (n : Note). n.event) same ∙ e))
  found_behind (z ∷ y ∷ ys) zero x h at e =
      let same : z ≡ x = cc in
      let g = h.0.0 (ap (λ (n : Note). n.event) same ∙ e) in
      (y, refl, g.0, g.1 ∙ ap (λ (n : Note). n.store) same)
  found_behind (z ∷ zs) (suc i) x h at e = found_behind zs i x h.1 at e

  -- ---- the machine

  abbrev pub Ok : Outcome → Type 0
  Ok (given a) = Unit {0}
  Ok (refused e) = e ≡ Trapped Import → Q

  abbrev LeftOk : Held → Type 0
  LeftOk (free s l) = All Ok l.outcomes
  LeftOk (starting f s l) = All Ok l.outcomes
  LeftOk (busy ph c l) = All Ok l.outcomes
  LeftOk (calling ph s f args th l) = All Ok l.outcomes
  LeftOk (aside ph c th l) = All Ok l.outcomes
  LeftOk (entering ph e s l) = All Ok l.outcomes
  LeftOk (over s) = Unit {0}

  abbrev TurnFine : Turn Held Note → Type 0
  TurnFine stops = Unit {0}
  TurnFine (goes k es t) = Fine es × LeftOk t

  module _ (p : Module) (x : Exports) (plan : Plan) where
    ends_fine : (how : End) (s : Store) → NotImport how → Fine (note (ended how) s ∷ [])
    ends_fine how s h = one (note (ended how) s) (not_plain how s h)

    broken_fine : (k rule : ℕ) (s : Store) → TurnFine (broken k rule s)
    broken_fine k rule s = (one (note _ s) (λ e. cc, λ e. cc), tt)

    done_fine : (s : Store) (es : List Entry) → Fine (done_notes s es)
    done_fine s [] = one (note (ended Done) s) (λ e. cc, λ e. cc)
    done_fine s (e ∷ es) = none

    on_ok : (s : Store) (l : Left) (es : List Entry) → All Ok l.outcomes → LeftOk (held_on s l es)
    on_ok s l [] h = tt
    on_ok s l (e ∷ es) h = h

    back_fine : (k : ℕ) (task : Task) (results : List Value) (s : Store) (l : Left) → All Ok l.outcomes → TurnFine (held_back k task results s l)
    back_fine k the_start results s l h = (done_fine s l.entries, on_ok s l l.entries h)
    back_fine k (an_entry e) results s l h =
        (front (note (returned l.number (value_of_results results)) s) (done_notes s l.entries) (λ e. cc, λ e. cc) (done_fine s l.entries), on_ok s (next_entry l) l.entries h)

    given_fine : (k import : ℕ) (args : List Value) (who : Asker) (l : Left) (said : Said) (s : Store) (pause : Option ℕ) → All Ok l.outcomes
        → TurnFine (held_given k (call_note import args (store_at who) (stack_at p who) pause) said s l who)
    given_fine k import args (inside task c) l (S.Value v) s pause h = (
      front (call_note import args c.store (stack_at p (inside task c)) pause) (note (answered (S.Value v)) s ∷ []) (call_plain import args (inside task c) p pause)
          (one (note (answered (S.Value v)) s) (λ e. cc, λ e. cc)),
      h,
    )
    given_fine k import args (outermost old) l (S.Value v) s pause h = (
      front (call_note import args old [] pause) (note (answered (S.Value v)) s ∷ done_notes s l.entries) (call_plain import args (outermost old) p pause)
          (front (note (answered (S.Value v)) s) (done_notes s l.entries) (λ e. cc, λ e. cc) (done_fine s l.entries)),
      on_ok s l l.entries h,
    )
    given_fine k import args who l S.Trap s pause h = (
      front (call_note import args (store_at who) (stack_at p who) pause) (note (answered S.Trap) s ∷ note (ended (Trapped Import)) s ∷ []) (call_plain import args who p pause)
          (trap_there (note (answered S.Trap) s) (note (ended (Trapped Import)) s) refl refl refl),
      tt,
    )

    pauses_fine : (k import : ℕ) (args : List Value) (a : Answer) (l : Left) (who who' : Asker) (pause : Option ℕ) → All Ok l.outcomes
        → TurnFine (held_pauses x plan k (call_note import args (store_at who') (stack_at p who') pause) import a l who)
    pauses_fine k import args a l (inside (an_entry e) c) who' pause h =
        (one (call_note import args (store_at who') (stack_at p who') pause) (call_plain import args who' p pause), h)
    pauses_fine k import args a l (inside the_start c) who' pause h = tt
    pauses_fine k import args a l (outermost s) who' pause h = tt

    refused_fine : (import : ℕ) (args : List Value) (who : Asker) (e : End) → (e ≡ Trapped Import → Q)
        → Fine (call_note import args (store_at who) (stack_at p who) None ∷ note (ended e) (store_at who) ∷ [])
    refused_fine import args who e h =
        front (call_note import args (store_at who) (stack_at p who) None) (note (ended e) (store_at who) ∷ []) (call_plain import args who p None)
        (one (note (ended e) (store_at who)) (end_plain e (store_at who) h))

    tested_fine : (k import : ℕ) (args : List Value) (who : Asker) (l : Left) (a : Answer) (o : Option End) (pause : Option ℕ) → EndIs NotImport o → All Ok l.outcomes
        → TurnFine (held_tested p x plan k import args who l a o pause)
    tested_fine k import args who l a (Some e) pause not h = (refused_fine import args who e (λ z. absurd (not z)), tt)
    tested_fine k import args who l a None None not h = given_fine k import args who l a.said (poked (store_at who) a.pokes) None h
    tested_fine k import args who l a None (Some ticks) not h = pauses_fine k import args a l who who (Some ticks) h

    asked_fine : (k import : ℕ) (args : List Value) (who : Asker) (l : Left) (os : List Outcome) → All Ok os → TurnFine (held_asked p x plan k import args who l os)
    asked_fine k import args who l [] h = (one (call_note import args (store_at who) (stack_at p who) None) (call_plain import args who p None), tt)
    asked_fine k import args who l (refused e ∷ os) h = (refused_fine import args who e (All-head Ok (refused e) os h), tt)
    asked_fine k import args who l (given a ∷ os) h =
        let results : List ValType = (func_type_at p import).results in
        tested_fine k import args who (with_outcomes l os) a (fault_of results (length (store_at who).memory) plan (in_start who) import a) (pause_of a.ticks)
        (fault_not results (length (store_at who).memory) plan (in_start who) import a) (All-tail Ok (given a) os h)

    trap_fine : (area : Area) (ph : Phase) (t : Trap) (s : Store) → (t ≡ Import → ⊥) → Fine (note (ended (trap_end area ph t s)) s ∷ [])
    trap_fine area (is_running task) t s own = ends_fine (Trapped t) s (λ e. own (trapped_is t (ap (λ (how : End). ended how) e)))
    trap_fine area (unwinds e i a) t s own = ends_fine (trap_end area (unwinds e i a) t s) s (λ z. cc)
    trap_fine area (rewinds e i a sp) t s own = ends_fine (trap_end area (rewinds e i a sp) t s) s (λ z. cc)

    busy_fine : (ph : Phase) (l : Left) (o : Next) → Own o → All Ok l.outcomes → TurnFine (busy_step p x plan ph l o)
    busy_fine (is_running task) l (steps k d) own h = (none, h)
    busy_fine (unwinds e i a) l (steps k d) own h = (none, h)
    busy_fine (rewinds e i a sp) l (steps k d) own h = (none, h)
    busy_fine (is_running task) l (asks k import args d) own h = asked_fine k import args (inside task d) l l.outcomes h
    busy_fine (unwinds e i a) l (asks k import args d) own h = broken_fine k 1 d.store
    busy_fine (rewinds e i a sp) l (asks k import args d) own h = by_import (nat_eq import i)
      where
        by_import : (b : Bool) → TurnFine (if b then goes k [] (calling (rewinds e i a sp) d.store x.get_state [] (test_rewound d) l) else broken k 3 d.store)
        by_import true = (none, h)
        by_import false = broken_fine k 3 d.store
    busy_fine (is_running task) l (returns k results s) own h = back_fine k task results s l h
    busy_fine (unwinds e i a) l (returns k results s) own h = (none, h)
    busy_fine (rewinds e i a sp) l (returns k results s) own h = broken_fine k 5 s
    busy_fine (is_running task) l (traps k t s) own h = (trap_fine plan.area (is_running task) t s own, tt)
    busy_fine (unwinds e i a) l (traps k t s) own h = (trap_fine plan.area (unwinds e i a) t s own, tt)
    busy_fine (rewinds e i a sp) l (traps k t s) own h = (trap_fine plan.area (rewinds e i a sp) t s own, tt)
    busy_fine (is_running task) l stuck own h = tt
    busy_fine (unwinds e i a) l stuck own h = tt
    busy_fine (rewinds e i a sp) l stuck own h = tt

    resumed_fine : (k : ℕ) (e : Entry) (said : Said) (sp : Store) (c : Configuration) (l : Left) (s : Store) → All Ok l.outcomes → TurnFine (held_resumed k e said sp c l s)
    resumed_fine k e (S.Value v) sp c l s h = (one (answer_note (S.Value v) s sp) (λ e. cc, λ e. cc), h)
    resumed_fine k e S.Trap sp c l s h = (trap_there (answer_note S.Trap s sp) (note (ended (Trapped Import)) s) refl refl refl, tt)

    back_aside_fine : (k : ℕ) (ph : Phase) (th : Then) (l : Left) (results : List Value) (s : Store) → All Ok l.outcomes → TurnFine (aside_back p x plan k ph th l results s)
    back_aside_fine k (unwinds e i a) (give_zero c) l results s h = (none, h)
    back_aside_fine k (unwinds e i a) test_unwound l results s h = by_state (is_state 1 results)
      where
        by_state : (b : Bool) → TurnFine (if b then goes k [] (calling (unwinds e i a) s x.stop_unwind [] pause_there l) else broken k 2 s)
        by_state true = (none, h)
        by_state false = broken_fine k 2 s
    back_aside_fine k (unwinds e i a) pause_there l results s h = (one (note _ s) (λ e. cc, λ e. cc), h)
    back_aside_fine k (rewinds e i a sp) call_again l results s h = (none, h)
    back_aside_fine k (rewinds e i a sp) (test_rewound c) l results s h = by_state (is_state 2 results)
      where
        by_state : (b : Bool) → TurnFine (if b then goes k [] (calling (rewinds e i a sp) s x.stop_rewind [] (give_answer c) l) else broken k 4 s)
        by_state true = (none, h)
        by_state false = broken_fine k 4 s
    back_aside_fine k (rewinds e i a sp) (give_answer c) l results s h = resumed_fine k e a.said sp c l (poked s a.pokes) h
    back_aside_fine k (is_running task) th l results s h = tt
    back_aside_fine k (unwinds e i a) call_again l results s h = tt
    back_aside_fine k (unwinds e i a) (test_rewound c) l results s h = tt
    back_aside_fine k (unwinds e i a) (give_answer c) l results s h = tt
    back_aside_fine k (rewinds e i a sp) (give_zero c) l results s h = tt
    back_aside_fine k (rewinds e i a sp) test_unwound l results s h = tt
    back_aside_fine k (rewinds e i a sp) pause_there l results s h = tt

    aside_fine : (ph : Phase) (th : Then) (l : Left) (o : Next) → Own o → All Ok l.outcomes → TurnFine (aside_step p x plan ph th l o)
    aside_fine ph th l (steps k d) own h = (none, h)
    aside_fine ph th l (asks k import args d) own h = broken_fine k 6 d.store
    aside_fine ph th l (returns k results s) own h = back_aside_fine k ph th l results s h
    aside_fine ph th l (traps k t s) own h = (trap_fine plan.area ph t s own, tt)
    aside_fine ph th l stuck own h = tt

    enters_fine : (ph : Phase) (e : Entry) (s : Store) (l : Left) (o : Option Func) → All Ok l.outcomes → TurnFine (busy_enters ph e s l o)
    enters_fine ph e s l None h = tt
    enters_fine ph e s l (Some f) h = (none, h)

    next_fine : (s : Store) (l : Left) (es : List Entry) → All Ok l.outcomes → TurnFine (held_next p s l es)
    next_fine s l [] h = tt
    next_fine s l (e ∷ es) h = enters_fine (is_running (an_entry e)) e s (record { number = l.number; entries = es; outcomes = l.outcomes }) (defined_at p e.func) h

    called_fine : (ph : Phase) (s : Store) (f : ℕ) (args : List Value) (th : Then) (l : Left) (o : Option Func) → All Ok l.outcomes → TurnFine (aside_called ph s f args th l o)
    called_fine ph s f args th l None h = tt
    called_fine ph s f args th l (Some g) h = (none, h)

    start_fine : (f : ℕ) (s : Store) (l : Left) (o : Option Func) → All Ok l.outcomes → TurnFine (held_start p x plan f s l o)
    start_fine f s l (Some g) h = (none, h)
    start_fine f s l None h = by_import (nat_lt f (func_imports p))
      where
        by_import : (b : Bool) → TurnFine (if b then held_asked p x plan 0 f [] (outermost s) l l.outcomes else stops)
        by_import true = asked_fine 0 f [] (outermost s) l l.outcomes h
        by_import false = tt

    turn_fine : (t : Held) → LeftOk t → TurnFine (protocol p x plan t)
    turn_fine (free s l) h = next_fine s l l.entries h
    turn_fine (starting f s l) h = start_fine f s l (defined_at p f) h
    turn_fine (busy ph c l) h = busy_fine ph l (step p c) (step_own p c) h
    turn_fine (calling ph s f args th l) h = called_fine ph s f args th l (defined_at p f) h
    turn_fine (aside ph c th l) h = aside_fine ph th l (step p c) (step_own p c) h
    turn_fine (entering ph e s l) h = enters_fine ph e s l (defined_at p e.func) h
    turn_fine (over s) h = tt

    -- ---- runs

    run_fine : (count n : ℕ) (t : Held) → LeftOk t → Fine (run_with (protocol p x plan) count n t).events
    run_fine zero n t h = none
    run_fine (suc count) n t h = by_turn (protocol p x plan t) (turn_fine t h) (λ k u g. run_fine count k u g)
      where
        by_turn : (o : Turn Held Note) → TurnFine o → ((k : ℕ) (u : Held) → LeftOk u → Fine (run_with (protocol p x plan) count k u).events)
            → Fine (pay (run_with (protocol p x plan) count) n t o).events
        by_turn stops w more = none
        by_turn (goes k es u) w more = by_cost (nat_lt k n)
          where
            by_cost : (b : Bool) → Fine (if b then after es (run_with (protocol p x plan) count (n - suc k) u) else still t).events
            by_cost true = fine_on es (run_with (protocol p x plan) count (n - suc k) u).events w.0 (more (n - suc k) u w.1)
            by_cost false = none

    begun_fine : (start : Option ℕ) (l : Left) (o : Opening) → OpeningIs NotImport o → All Ok l.outcomes → Fine (held_begun start l o).events × LeftOk (held_begun start l o).last
    begun_fine start l (fails_as e) not h = (one (note (ended e) no_store) (not_plain e no_store not), tt)
    begun_fine None l (opens s) not h = (done_fine s l.entries, on_ok s l l.entries h)
    begun_fine (Some f) l (opens s) not h = (none, h)

  spent_fine : (n : ℕ) (t : Held) → Fine (unless_over n t)
  spent_fine n (free s l) = one (note _ s) (λ e. cc, λ e. cc)
  spent_fine n (starting f s l) = one (note _ s) (λ e. cc, λ e. cc)
  spent_fine n (busy ph c l) = one (note _ c.store) (λ e. cc, λ e. cc)
  spent_fine n (calling ph s f args th l) = one (note _ s) (λ e. cc, λ e. cc)
  spent_fine n (aside ph c th l) = one (note _ c.store) (λ e. cc, λ e. cc)
  spent_fine n (entering ph e s l) = one (note _ s) (λ e. cc, λ e. cc)
  spent_fine n (over s) = none

  -- a run that goes on from where one stands
  told_fine : (w : Program) (n : ℕ) (r : Ran Held Note) → Fine r.events → LeftOk r.last → Fine (told_by w.steps (held_continued w.source w.plan n r))
  told_fine w n r begun left =
      let rest : Ran Held Note = run (protocol w.source (exports_of w.source) w.plan) n r.last in
      fine_on (r.events ++ rest.events) (unless_over w.steps rest.last) (fine_on r.events rest.events begun (run_fine w.source (exports_of w.source) w.plan n n r.last left))
      (spent_fine w.steps rest.last)

  story_fine : (w : Program) (os : List Outcome) → All Ok os → Fine (protocol_story w os)
  story_fine w os h = by w.origin
    where
      by_entry : (x : Halt) (o : Option Entry) → LeftOk (halted_in w.source w.plan x os o)
      by_entry x None = tt
      by_entry x (Some e) = h

      by : (o : Origin) → Fine (story_from w os o)
      by at_start =
          let r : Ran Held Note = held_begun w.source.start (all_left w.plan os) (opening w.source w.plan.globals) in
          let begun = begun_fine w.source (exports_of w.source) w.plan w.source.start (all_left w.plan os) (opening w.source w.plan.globals) (opening_not w.source w.plan.globals) h in
          told_fine w w.steps r begun.0 begun.1
      by gone = none
      by (at_pause x) = told_fine w (w.steps - x.used) (still (halted w.source w.plan x os)) none (by_entry x (slice_get w.plan.entries x.entry))

-- ---- the laws

any_outcome : (os : List Outcome) → All (Ok (Unit {0})) os
any_outcome [] = All-nil (Ok (Unit {0}))
any_outcome (o ∷ os) = All-cons (Ok (Unit {0})) o os (ok o) (any_outcome os)
  where
    ok : (o : Outcome) → Ok (Unit {0}) o
    ok (given a) = tt
    ok (refused e) = λ z. tt

none_so : (o : Outcome) → RefusesOtherwise o → Ok ⊥ o
none_so (given a) h = tt
none_so (refused e) h = h

pub traps_end : TrapsEnd
traps_end w os i x at e = found_behind (Unit {0}) (protocol_story w os) i x (story_fine (Unit {0}) w os (any_outcome os)).1 at e

pub traps_are_answers : TrapsAreAnswers
traps_are_answers w os i y fine at e = by i at
  where
    story : Fine ⊥ (protocol_story w os)
    story = story_fine ⊥ w os (All-weaker RefusesOtherwise (Ok ⊥) none_so os fine)

    by : (k : ℕ) → slice_get (protocol_story w os) k ≡ Some y → (j : ℕ) × (x : Note) × (k ≡ suc j) × (slice_get (protocol_story w os) j ≡ Some x) × (x.event ≡ answered S.Trap)
    by zero there = absurd (first_is ⊥ (protocol_story w os) y story.0 there e)
    by (suc j) there = elim (found_before ⊥ (protocol_story w os) j y story.1 there e) [ inl f ↦ (j, f.0, refl, f.1, f.2) | inr q ↦ absurd q ]
