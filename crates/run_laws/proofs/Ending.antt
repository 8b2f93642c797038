-- Nothing follows an end.
use Rattle.std.proofs.Common.{◌≡◌, ℕ, zero, suc, ◌-◌, List, [], ◌∷◌, ◌++◌, length, Option, Some, None, Bool, true, false, All, refl, sym, ap, ◌∙◌, subst}
use Rattle.std.specs.Prelude.{nat_lt, nat_eq, if◌then◌else◌, slice_get}
use Rattle.std.proofs.lemmas.List.Elements.{All-head, All-tail}
use Rattle.wa_types.specs.declared.values.Value.{Value}
use Rattle.wa_types.specs.Base.{Base}
use Rattle.wa_types.specs.Syntax.{Func, Module}
use Rattle.wa_types.specs.Modules.{func_imports, func_type_at, defined_at}
use Rattle.wa_types.specs.Frames.{Suspended, Room, Fit}
use Rattle.wa_model.specs.declared.answers.Said.{Said}
use Rattle.wa_model.specs.declared.answers.Said.TheVariants as SV
use Rattle.wa_model.specs.declared.events.End.{End}
use Rattle.wa_model.specs.declared.events.End.TheVariants.{Broken}
use Rattle.wa_model.specs.Outside.{Answer, Event, called, answered, paused, parked, returned, ended, shown as was_shown}
use Rattle.wa_model.specs.Machine.{Turn, stops, goes, Ran, after, still, pay, run_with, run}
use Rattle.wa_model.specs.Store.{Store}
use Rattle.wa_model.specs.Configuration.{Configuration}
use Rattle.wa_model.specs.Step.{Next, steps, asks, returns, traps, stuck, step}
use Rattle.wa_model.specs.Plan.{Entry, Plan, Outcome, given, refused}
use Rattle.wa_model.specs.Instantiation.{Opening, fails_as, opens, opening}
use Rattle.wa_model.specs.Blocking.{Note, note, call_note, value_of_results, fault_of, pause_of, poked, done_notes, Task, the_start, an_entry, Left, with_outcomes, Asker, inside, outermost, store_at, stack_at, in_start, State, between, begins, runs, halts, on_to, next_entry, task_back, go_on, tested, asked, by_step, enters, enter_next, start_called, blocking, all_left, begun, Blocking}
use Rattle.wa_model.specs.Protocol.{Exports, exports_of, Phase, is_running, unwinds, rewinds, Then, give_zero, test_unwound, pause_there, call_again, test_rewound, give_answer, Held, free, starting, busy, calling, aside, entering, over, held_on, held_back, held_given, held_pauses, held_resumed, held_tested, held_asked, busy_step, is_state, aside_back, aside_step, busy_enters, held_next, aside_called, held_start, protocol, held_begun, Protocol}
use Rattle.wa_model.specs.Expected.{pause_note, trap_note}
use Rattle.run_theory.specs.Shown.{shown_within_at as shown_at, shown_within as shown}
use Rattle.wa_model.specs.Behaves.{expected_notes}
use Rattle.world_model.specs.World.{is_end}
use Rattle.run_laws.specs.Standing.{PauseTold}
use Rattle.run_laws.proofs.StandingPauses.{pauses_told}
use Rattle.run_laws.specs.Growing.{EndIsLast, BlockingEndIsLast, ExpectedEndIsLast, ProtocolEndIsLast}

-- No note but the last is an end; and if that is one, this holds.
abbrev Ending : Type 0 → List Note → Type 0
Ending Over [] = Unit {0}
Ending Over (x ∷ []) = is_end x.event ≡ true → Over
Ending Over (x ∷ y ∷ ys) = (is_end x.event ≡ false) × Ending Over (y ∷ ys)

join_endings : (Over Behind : Type 0) (es fs : List Note) → Ending Over es → (Over → (fs ≡ []) × Behind) → Ending Behind fs → Ending Behind (es ++ fs)
join_endings Over Behind [] fs h f g = g
join_endings Over Behind (x ∷ []) [] h f g = λ e. (f (h e)).1
join_endings Over Behind (x ∷ []) (y ∷ ys) h f g = (by_end (is_end x.event) refl, g)
  where
    by_end : (b : Bool) → is_end x.event ≡ b → b ≡ false
    by_end true e = let none = (f (h e)).0 in cc
    by_end false e = refl
join_endings Over Behind (x ∷ y ∷ ys) fs h f g = (h.0, join_endings Over Behind (y ∷ ys) fs h.1 f g)

end_last : (Over : Type 0) (es : List Note) → Ending Over es → EndIsLast es
end_last Over [] h = λ i x e f. cc
end_last Over (y ∷ []) h = by_place
  where
    by_place : (i : ℕ) (x : Note) → slice_get (y ∷ []) i ≡ Some x → is_end x.event ≡ true → 1 ≡ suc i
    by_place zero x e f = refl
    by_place (suc i) x e f = cc
end_last Over (y ∷ z ∷ es) h = by_place (end_last Over (z ∷ es) h.1)
  where
    by_place : EndIsLast (z ∷ es) → (i : ℕ) (x : Note) → slice_get (y ∷ z ∷ es) i ≡ Some x → is_end x.event ≡ true → suc (suc (length es)) ≡ suc i
    by_place behind zero x e f =
        let same : y ≡ x = cc in
        let bad : false ≡ true = sym h.0 ∙ ap (λ (n : Note). is_end n.event) same ∙ f in cc
    by_place behind (suc i) x e f = ap suc (behind i x e f)

module _ (S : Type 0) (next : S → Turn S Note) (Over : S → Type 0) (over_stops : (s : S) → Over s → next s ≡ stops) where
  abbrev TurnEnds : Turn S Note → Type 0
  TurnEnds stops = Unit {0}
  TurnEnds (goes k es t) = Ending (Over t) es

  abbrev RanEnds : Ran S Note → Type 0
  RanEnds r = Ending (Over r.last) r.events

  over_still : (count n : ℕ) (s : S) → Over s → run_with next count n s ≡ still s
  over_still zero n s o = refl
  over_still (suc count) n s o = ap (pay (run_with next count) n s) (over_stops s o)

  behind_over : (count n : ℕ) (s : S) → Over s → ((run_with next count n s).events ≡ []) × Over (run_with next count n s).last
  behind_over count n s o = let z = over_still count n s o in (ap (λ (r : Ran S Note). r.events) z, subst (λ (r : Ran S Note). Over r.last) (sym z) o)

  module _ (each : (s : S) → TurnEnds (next s)) where
    run_ends : (count n : ℕ) (s : S) → RanEnds (run_with next count n s)
    run_ends zero n s = tt
    run_ends (suc count) n s = by_turn (next s) (each s) (λ k t. run_ends count k t)
      where
        by_turn : (o : Turn S Note) → TurnEnds o → ((k : ℕ) (t : S) → RanEnds (run_with next count k t)) → RanEnds (pay (run_with next count) n s o)
        by_turn stops h more = tt
        by_turn (goes k es t) h more = by_cost (nat_lt k n)
          where
            by_cost : (b : Bool) → RanEnds (if b then after es (run_with next count (n - suc k) t) else still s)
            by_cost true = join_endings (Over t) (Over (run_with next count (n - suc k) t).last) es (run_with next count (n - suc k) t).events h (behind_over count (n - suc k) t) (more (n - suc k) t)
            by_cost false = tt

    after_ends : (n : ℕ) (r : Ran S Note) → RanEnds r → RanEnds (after r.events (run next n r.last))
    after_ends n r h = join_endings (Over r.last) (Over (run next n r.last).last) r.events (run next n r.last).events h (behind_over n n r.last) (run_ends n n r.last)

-- ---- with blocking imports

abbrev StateOver : State → Type 0
StateOver (between s l) = ⊥
StateOver (begins x s l) = ⊥
StateOver (runs task c l) = ⊥
StateOver (halts s) = Unit {0}

module _ (m : Module) (plan : Plan) where
  over_stops : (s : State) → StateOver s → blocking m plan s ≡ stops
  over_stops (between s l) o = absurd o
  over_stops (begins x s l) o = absurd o
  over_stops (runs task c l) o = absurd o
  over_stops (halts s) o = refl

  abbrev Ends : Turn State Note → Type 0
  Ends t = TurnEnds State (blocking m plan) StateOver over_stops t

  done_ends : (s : Store) (l : Left) (es : List Entry) → Ending (StateOver (on_to s l es)) (done_notes s es)
  done_ends s l [] = λ e. tt
  done_ends s l (e ∷ es) = tt

  -- a note that is no end in front of them
  pub front_ends : (Over : Type 0) (x : Note) (es : List Note) → is_end x.event ≡ false → Ending Over es → Ending Over (x ∷ es)
  front_ends Over x [] e h = λ f. let bad : false ≡ true = sym e ∙ f in cc
  front_ends Over x (y ∷ es) e h = (e, h)

  back_ends : (k : ℕ) (task : Task) (results : List Value) (s : Store) (l : Left) → Ends (task_back k task results s l)
  back_ends k the_start results s l = done_ends s l l.entries
  back_ends k (an_entry e) results s l =
      front_ends (StateOver (on_to s (next_entry l) l.entries)) (note (returned l.number (value_of_results results)) s) (done_notes s l.entries) refl (done_ends s (next_entry l) l.entries)

  go_on_ends : (k : ℕ) (x : Note) (said : Said) (s : Store) (l : Left) (who : Asker) → is_end x.event ≡ false → Ends (go_on k x said s l who)
  go_on_ends k x (SV.Value v) s l (inside task c) e = (e, λ f. cc)
  go_on_ends k x (SV.Value v) s l (outermost old) e = (e, front_ends (StateOver (on_to s l l.entries)) (note (answered (SV.Value v)) s) (done_notes s l.entries) refl (done_ends s l l.entries))
  go_on_ends k x SV.Trap s l who e = (e, (refl, λ f. tt))

  tested_ends : (k import : ℕ) (args : List Value) (who : Asker) (l : Left) (a : Answer) (o : Option End) → Ends (tested m k import args who l a o)
  tested_ends k import args who l a (Some e) = (refl, λ f. tt)
  tested_ends k import args who l a None = go_on_ends k (call_note import args (store_at who) (stack_at m who) (pause_of a.ticks)) a.said (poked (store_at who) a.pokes) l who refl

  asked_ends : (k import : ℕ) (args : List Value) (who : Asker) (l : Left) (os : List Outcome) → Ends (asked m plan k import args who l os)
  asked_ends k import args who l [] = λ e. tt
  asked_ends k import args who l (refused e ∷ os) = (refl, λ f. tt)
  asked_ends k import args who l (given a ∷ os) =
      tested_ends k import args who (with_outcomes l os) a (fault_of (func_type_at m import).results (length (store_at who).memory) plan (in_start who) import a)

  step_ends : (task : Task) (l : Left) (o : Next) → Ends (by_step m plan task l o)
  step_ends task l (steps k d) = tt
  step_ends task l (asks k import args d) = asked_ends k import args (inside task d) l l.outcomes
  step_ends task l (returns k results s) = back_ends k task results s l
  step_ends task l (traps k trap s) = λ e. tt
  step_ends task l stuck = tt

  enters_ends : (e : Entry) (s : Store) (l : Left) (o : Option Func) → Ends (enters e s l o)
  enters_ends e s l None = tt
  enters_ends e s l (Some f) = tt

  next_ends : (s : Store) (l : Left) (es : List Entry) → Ends (enter_next m s l es)
  next_ends s l [] = tt
  next_ends s l (e ∷ es) = enters_ends e s (record { number = l.number; entries = es; outcomes = l.outcomes }) (defined_at m e.func)

  start_ends : (x : ℕ) (s : Store) (l : Left) (o : Option Func) → Ends (start_called m plan x s l o)
  start_ends x s l (Some f) = tt
  start_ends x s l None = by_import (nat_lt x (func_imports m))
    where
      by_import : (b : Bool) → Ends (if b then asked m plan 0 x [] (outermost s) l l.outcomes else stops)
      by_import true = asked_ends 0 x [] (outermost s) l l.outcomes
      by_import false = tt

  turn_ends : (t : State) → Ends (blocking m plan t)
  turn_ends (between s l) = next_ends s l l.entries
  turn_ends (begins x s l) = start_ends x s l (defined_at m x)
  turn_ends (runs task c l) = step_ends task l (step m c)
  turn_ends (halts s) = tt

  begun_ends : (start : Option ℕ) (l : Left) (o : Opening) → RanEnds State (blocking m plan) StateOver over_stops (begun start l o)
  begun_ends start l (fails_as e) = λ f. tt
  begun_ends None l (opens s) = done_ends s l l.entries
  begun_ends (Some x) l (opens s) = tt

blocking_ending : (m : Module) (plan : Plan) (os : List Outcome) (n : ℕ) → RanEnds State (blocking (Base m) plan) StateOver (over_stops (Base m) plan) (Blocking m plan os n)
blocking_ending m plan os n =
    let b : Module = Base m in
    after_ends State (blocking b plan) StateOver (over_stops b plan) (turn_ends b plan) n (begun b.start (all_left plan os) (opening b plan.globals))
    (begun_ends b plan b.start (all_left plan os) (opening b plan.globals))

pub blocking_end_last : BlockingEndIsLast
blocking_end_last m plan os n = end_last (StateOver (Blocking m plan os n).last) (Blocking m plan os n).events (blocking_ending m plan os n)

-- ---- expected notes

weaker : (Over : Type 0) (es : List Note) → Ending Over es → Ending (Unit {0}) es
weaker Over [] h = tt
weaker Over (x ∷ []) h = λ e. tt
weaker Over (x ∷ y ∷ es) h = (h.0, weaker Over (y ∷ es) h.1)

rest_ends : (x : Note) (es : List Note) → Ending (Unit {0}) (x ∷ es) → Ending (Unit {0}) es
rest_ends x [] h = tt
rest_ends x (y ∷ es) h = h.1

call_no_end : (plan : Plan) (e : Event) (pause : Option ℕ) (ticks : ℕ) → PauseTold plan e pause → pause ≡ Some ticks → is_end e ≡ false
call_no_end plan e None ticks told z = cc
call_no_end plan (called c) (Some t) ticks told z = refl
call_no_end plan (answered said) (Some t) ticks told z = absurd told
call_no_end plan (paused t' used) (Some t) ticks told z = absurd told
call_no_end plan (returned i value) (Some t) ticks told z = absurd told
call_no_end plan (ended how) (Some t) ticks told z = absurd told
call_no_end plan (parked used) (Some t) ticks told z = absurd told
call_no_end plan (was_shown at bytes) (Some t) ticks told z = absurd told

module _ (plan : Plan) (room fit : List Suspended → ℕ) (len : ℕ) where
  abbrev Told : Note → Type 0
  Told x = PauseTold plan x.event x.pause

  shown_ends : (es : List Note) → Ending (Unit {0}) es → All Told es → Ending (Unit {0}) (shown room fit len es)
  shown_ends [] h told = tt
  shown_ends (x ∷ es) h told = by_pause x.pause refl (shown_ends es (rest_ends x es h) (All-tail Told x es told))
    where
      front : (zs : List Note) → is_end x.event ≡ false → Ending (Unit {0}) zs → Ending (Unit {0}) (x ∷ zs)
      front [] e g = λ f. tt
      front (z ∷ zs) e g = (e, g)

      plain_front : (ys : List Note) → Ending (Unit {0}) (x ∷ ys) → Ending (Unit {0}) (shown room fit len ys) → Ending (Unit {0}) (x ∷ shown room fit len ys)
      plain_front [] g k = λ f. tt
      plain_front (y ∷ ys) g k = front (shown room fit len (y ∷ ys)) g.0 k

      by_pause : (o : Option ℕ) → x.pause ≡ o → Ending (Unit {0}) (shown room fit len es) → Ending (Unit {0}) (shown_at room fit len x o (shown room fit len es))
      by_pause None z k = plain_front es h k
      by_pause (Some ticks) z k = by_room (nat_lt len (room x.stack))
        where
          lives : is_end x.event ≡ false
          lives = call_no_end plan x.event x.pause ticks (All-head Told x es told) z

          behind : (zs : List Note) → Ending (Unit {0}) zs → Ending (Unit {0}) (pause_note ticks (room x.stack) x.store x.stack ∷ zs)
          behind [] g = λ f. tt
          behind (y ∷ zs) g = (refl, g)

          by_room : (b : Bool) → Ending (Unit {0}) (x ∷ (if b then trap_note (fit x.stack) len x.store ∷ [] else pause_note ticks (room x.stack) x.store x.stack ∷ shown room fit len es))
          by_room true = (lives, λ f. tt)
          by_room false = (lives, behind (shown room fit len es) k)

pub expected_end_last : ExpectedEndIsLast
expected_end_last m s plan os n =
    end_last (Unit {0}) (expected_notes m s plan os n)
    (shown_ends plan (Room m s.policy) (λ stack. Fit m s.policy stack plan.area.len) plan.area.len (Blocking m plan os n).events
    (weaker (StateOver (Blocking m plan os n).last) (Blocking m plan os n).events (blocking_ending m plan os n)) (pauses_told m plan os n))

-- ---- under the protocol

abbrev HeldOver : Held → Type 0
HeldOver (free s l) = ⊥
HeldOver (starting f s l) = ⊥
HeldOver (busy ph c l) = ⊥
HeldOver (calling ph s f args th l) = ⊥
HeldOver (aside ph c th l) = ⊥
HeldOver (entering ph e s l) = ⊥
HeldOver (over s) = Unit {0}

module _ (p : Module) (x : Exports) (plan : Plan) where
  held_stops : (s : Held) → HeldOver s → protocol p x plan s ≡ stops
  held_stops (free s l) o = absurd o
  held_stops (starting f s l) o = absurd o
  held_stops (busy ph c l) o = absurd o
  held_stops (calling ph s f args th l) o = absurd o
  held_stops (aside ph c th l) o = absurd o
  held_stops (entering ph e s l) o = absurd o
  held_stops (over s) o = refl

  abbrev HeldEnds : Turn Held Note → Type 0
  HeldEnds t = TurnEnds Held (protocol p x plan) HeldOver held_stops t

  held_front : (Over : Type 0) (y : Note) (es : List Note) → is_end y.event ≡ false → Ending Over es → Ending Over (y ∷ es)
  held_front Over y [] e h = λ f. let bad : false ≡ true = sym e ∙ f in cc
  held_front Over y (z ∷ es) e h = (e, h)

  held_done : (s : Store) (l : Left) (es : List Entry) → Ending (HeldOver (held_on s l es)) (done_notes s es)
  held_done s l [] = λ e. tt
  held_done s l (e ∷ es) = tt

  back_held : (k : ℕ) (task : Task) (results : List Value) (s : Store) (l : Left) → HeldEnds (held_back k task results s l)
  back_held k the_start results s l = held_done s l l.entries
  back_held k (an_entry e) results s l =
      held_front (HeldOver (held_on s (next_entry l) l.entries)) (note (returned l.number (value_of_results results)) s) (done_notes s l.entries) refl (held_done s (next_entry l) l.entries)

  given_held : (k : ℕ) (y : Note) (said : Said) (s : Store) (l : Left) (who : Asker) → is_end y.event ≡ false → HeldEnds (held_given k y said s l who)
  given_held k y (SV.Value v) s l (inside task c) e = (e, λ f. cc)
  given_held k y (SV.Value v) s l (outermost old) e = (e, held_front (HeldOver (held_on s l l.entries)) (note (answered (SV.Value v)) s) (done_notes s l.entries) refl (held_done s l l.entries))
  given_held k y SV.Trap s l who e = (e, (refl, λ f. tt))

  pauses_held : (k : ℕ) (y : Note) (import : ℕ) (a : Answer) (l : Left) (who : Asker) → is_end y.event ≡ false → HeldEnds (held_pauses x plan k y import a l who)
  pauses_held k y import a l (inside (an_entry e) c) h = λ f. let bad : false ≡ true = sym h ∙ f in cc
  pauses_held k y import a l (inside the_start c) h = tt
  pauses_held k y import a l (outermost s) h = tt

  tested_held : (k import : ℕ) (args : List Value) (who : Asker) (l : Left) (a : Answer) (o : Option End) (pause : Option ℕ) → HeldEnds (held_tested p x plan k import args who l a o pause)
  tested_held k import args who l a (Some e) pause = (refl, λ f. tt)
  tested_held k import args who l a None None = given_held k (call_note import args (store_at who) (stack_at p who) None) a.said (poked (store_at who) a.pokes) l who refl
  tested_held k import args who l a None (Some ticks) = pauses_held k (call_note import args (store_at who) (stack_at p who) (Some ticks)) import a l who refl

  asked_held : (k import : ℕ) (args : List Value) (who : Asker) (l : Left) (os : List Outcome) → HeldEnds (held_asked p x plan k import args who l os)
  asked_held k import args who l [] = λ e. tt
  asked_held k import args who l (refused e ∷ os) = (refl, λ f. tt)
  asked_held k import args who l (given a ∷ os) =
      tested_held k import args who (with_outcomes l os) a (fault_of (func_type_at p import).results (length (store_at who).memory) plan (in_start who) import a) (pause_of a.ticks)

  busy_held : (ph : Phase) (l : Left) (o : Next) → HeldEnds (busy_step p x plan ph l o)
  busy_held (is_running task) l (steps k d) = tt
  busy_held (unwinds e i a) l (steps k d) = tt
  busy_held (rewinds e i a sp) l (steps k d) = tt
  busy_held (is_running task) l (asks k import args d) = asked_held k import args (inside task d) l l.outcomes
  busy_held (unwinds e i a) l (asks k import args d) = λ f. tt
  busy_held (rewinds e i a sp) l (asks k import args d) = by_import (nat_eq import i)
    where
      by_import : (b : Bool) → HeldEnds (if b then goes k [] (calling (rewinds e i a sp) d.store x.get_state [] (test_rewound d) l) else goes k (note (ended (Broken 3)) d.store ∷ []) (over d.store))
      by_import true = tt
      by_import false = λ f. tt
  busy_held (is_running task) l (returns k results s) = back_held k task results s l
  busy_held (unwinds e i a) l (returns k results s) = tt
  busy_held (rewinds e i a sp) l (returns k results s) = λ f. tt
  busy_held (is_running task) l (traps k trap s) = λ f. tt
  busy_held (unwinds e i a) l (traps k trap s) = λ f. tt
  busy_held (rewinds e i a sp) l (traps k trap s) = λ f. tt
  busy_held (is_running task) l stuck = tt
  busy_held (unwinds e i a) l stuck = tt
  busy_held (rewinds e i a sp) l stuck = tt

  resumed_held : (k : ℕ) (e : Entry) (said : Said) (at_pause : Store) (c : Configuration) (l : Left) (s : Store) → HeldEnds (held_resumed k e said at_pause c l s)
  resumed_held k e (SV.Value v) at_pause c l s = λ f. cc
  resumed_held k e SV.Trap at_pause c l s = (refl, λ f. tt)

  back_aside : (k : ℕ) (ph : Phase) (th : Then) (l : Left) (results : List Value) (s : Store) → HeldEnds (aside_back p x plan k ph th l results s)
  back_aside k (unwinds e i a) (give_zero c) l results s = tt
  back_aside k (unwinds e i a) test_unwound l results s = by_state (is_state 1 results)
    where
      by_state : (b : Bool) → HeldEnds (if b then goes k [] (calling (unwinds e i a) s x.stop_unwind [] pause_there l) else goes k (note (ended (Broken 2)) s ∷ []) (over s))
      by_state true = tt
      by_state false = λ f. tt
  back_aside k (unwinds e i a) pause_there l results s = λ f. cc
  back_aside k (rewinds e i a sp) call_again l results s = tt
  back_aside k (rewinds e i a sp) (test_rewound c) l results s = by_state (is_state 2 results)
    where
      by_state : (b : Bool) → HeldEnds (if b then goes k [] (calling (rewinds e i a sp) s x.stop_rewind [] (give_answer c) l) else goes k (note (ended (Broken 4)) s ∷ []) (over s))
      by_state true = tt
      by_state false = λ f. tt
  back_aside k (rewinds e i a sp) (give_answer c) l results s = resumed_held k e a.said sp c l (poked s a.pokes)
  back_aside k (is_running task) th l results s = tt
  back_aside k (unwinds e i a) call_again l results s = tt
  back_aside k (unwinds e i a) (test_rewound c) l results s = tt
  back_aside k (unwinds e i a) (give_answer c) l results s = tt
  back_aside k (rewinds e i a sp) (give_zero c) l results s = tt
  back_aside k (rewinds e i a sp) test_unwound l results s = tt
  back_aside k (rewinds e i a sp) pause_there l results s = tt

  step_aside : (ph : Phase) (th : Then) (l : Left) (o : Next) → HeldEnds (aside_step p x plan ph th l o)
  step_aside ph th l (steps k d) = tt
  step_aside ph th l (asks k import args d) = λ f. tt
  step_aside ph th l (returns k results s) = back_aside k ph th l results s
  step_aside ph th l (traps k trap s) = λ f. tt
  step_aside ph th l stuck = tt

  enters_held : (ph : Phase) (e : Entry) (s : Store) (l : Left) (o : Option Func) → HeldEnds (busy_enters ph e s l o)
  enters_held ph e s l None = tt
  enters_held ph e s l (Some f) = tt

  next_held : (s : Store) (l : Left) (es : List Entry) → HeldEnds (held_next p s l es)
  next_held s l [] = tt
  next_held s l (e ∷ es) = enters_held (is_running (an_entry e)) e s (record { number = l.number; entries = es; outcomes = l.outcomes }) (defined_at p e.func)

  called_held : (ph : Phase) (s : Store) (f : ℕ) (args : List Value) (th : Then) (l : Left) (o : Option Func) → HeldEnds (aside_called ph s f args th l o)
  called_held ph s f args th l None = tt
  called_held ph s f args th l (Some g) = tt

  start_held : (f : ℕ) (s : Store) (l : Left) (o : Option Func) → HeldEnds (held_start p x plan f s l o)
  start_held f s l (Some g) = tt
  start_held f s l None = by_import (nat_lt f (func_imports p))
    where
      by_import : (b : Bool) → HeldEnds (if b then held_asked p x plan 0 f [] (outermost s) l l.outcomes else stops)
      by_import true = asked_held 0 f [] (outermost s) l l.outcomes
      by_import false = tt

  turn_held : (t : Held) → HeldEnds (protocol p x plan t)
  turn_held (free s l) = next_held s l l.entries
  turn_held (starting f s l) = start_held f s l (defined_at p f)
  turn_held (busy ph c l) = busy_held ph l (step p c)
  turn_held (calling ph s f args th l) = called_held ph s f args th l (defined_at p f)
  turn_held (aside ph c th l) = step_aside ph th l (step p c)
  turn_held (entering ph e s l) = enters_held ph e s l (defined_at p e.func)
  turn_held (over s) = tt

  begun_held : (start : Option ℕ) (l : Left) (o : Opening) → RanEnds Held (protocol p x plan) HeldOver held_stops (held_begun start l o)
  begun_held start l (fails_as e) = λ f. tt
  begun_held None l (opens s) = held_done s l l.entries
  begun_held (Some f) l (opens s) = tt

pub protocol_end_last : ProtocolEndIsLast
protocol_end_last p plan os n =
    let x : Exports = exports_of p in
    let first : Ran Held Note = held_begun p.start (all_left plan os) (opening p plan.globals) in
    end_last (HeldOver (Protocol p plan os n).last) (Protocol p plan os n).events
    (after_ends Held (protocol p x plan) HeldOver (held_stops p x plan) (turn_held p x plan) n first (begun_held p x plan p.start (all_left plan os) (opening p plan.globals)))
