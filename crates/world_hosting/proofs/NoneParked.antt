-- No note of a run under the protocol tells that a program parks: only the lines of a world with mailboxes do.
use Rattle.std.proofs.Common.{◌≡◌, ◌-◌, ℕ, zero, suc, List, [], ◌∷◌, ◌++◌, Option, Some, None, Bool, true, false, refl}
use Rattle.std.specs.Prelude.{nat_lt, nat_eq, if◌then◌else◌, length}
use Rattle.wa_types.specs.declared.values.Value.{Value}
use Rattle.wa_types.specs.Syntax.{Func, Module}
use Rattle.wa_types.specs.Modules.{func_imports, func_type_at, defined_at}
use Rattle.wa_model.specs.declared.answers.Said.{Said}
use Rattle.wa_model.specs.declared.answers.Said.TheVariants as S
use Rattle.wa_model.specs.declared.events.End.{End}
use Rattle.wa_model.specs.Outside.{Answer, Event, answered, parked, returned}
use Rattle.wa_model.specs.Machine.{Turn, stops, goes, Ran, after, still, pay, run_with, run}
use Rattle.wa_model.specs.Store.{Store}
use Rattle.wa_model.specs.Configuration.{Configuration}
use Rattle.wa_model.specs.Step.{Next, steps, asks, returns, traps, stuck, step}
use Rattle.wa_model.specs.Plan.{Entry, Plan, Outcome, given, refused}
use Rattle.wa_model.specs.Instantiation.{Opening, fails_as, opens, opening}
use Rattle.wa_model.specs.Blocking.{Note, note, call_note, value_of_results, fault_of, pause_of, poked, done_notes, Task, the_start, an_entry, Left, with_outcomes, Asker, inside, outermost}
use Rattle.wa_model.specs.Blocking.{store_at, stack_at, in_start, all_left}
use Rattle.wa_model.specs.Protocol.{Exports, exports_of, Phase, is_running, unwinds, rewinds, Then, give_zero, test_unwound, pause_there, call_again, test_rewound, give_answer, Held, free}
use Rattle.wa_model.specs.Protocol.{starting, busy, calling, aside, entering, over, broken, held_back, held_given, held_pauses, held_resumed, held_tested, held_asked, busy_step, is_state}
use Rattle.wa_model.specs.Protocol.{aside_back, aside_step, busy_enters, held_next, aside_called, held_start, protocol, held_begun}
use Rattle.world_model.specs.World.{Origin, Program, at_pause, at_start, gone, halted, protocol_story, story_from, told_by, unless_over}

-- an event that tells it
abbrev pub is_parking : Event → Bool
is_parking (parked used) = true
is_parking e = false

-- none of these notes does
abbrev pub Unparked : List Note → Type 0
Unparked [] = Unit {0}
Unparked (x ∷ xs) = (is_parking x.event ≡ false) × Unparked xs

pub unparked_on : (xs ys : List Note) → Unparked xs → Unparked ys → Unparked (xs ++ ys)
unparked_on [] ys h k = k
unparked_on (x ∷ xs) ys h k = (h.0, unparked_on xs ys h.1 k)

pub unparked_front : (xs ys : List Note) → Unparked (xs ++ ys) → Unparked xs × Unparked ys
unparked_front [] ys h = (tt, h)
unparked_front (x ∷ xs) ys h = let on = unparked_front xs ys h.1 in ((h.0, on.0), on.1)

abbrev TurnUnparked : Turn Held Note → Type 0
TurnUnparked stops = Unit {0}
TurnUnparked (goes k es t) = Unparked es

on_unparked : (s : Store) (es : List Entry) → Unparked (done_notes s es)
on_unparked s [] = (refl, tt)
on_unparked s (e ∷ es) = tt

module _ (p : Module) (x : Exports) (plan : Plan) where
  back_unparked : (k : ℕ) (task : Task) (results : List Value) (s : Store) (l : Left) → TurnUnparked (held_back k task results s l)
  back_unparked k the_start results s l = on_unparked s l.entries
  back_unparked k (an_entry e) results s l =
      unparked_on (note (returned l.number (value_of_results results)) s ∷ []) (done_notes s l.entries) (refl, tt) (on_unparked s l.entries)

  given_unparked : (k import : ℕ) (args : List Value) (who : Asker) (l : Left) (said : Said) (s : Store) (pause : Option ℕ)
      → TurnUnparked (held_given k (call_note import args (store_at who) (stack_at p who) pause) said s l who)
  given_unparked k import args (inside task c) l (S.Value v) s pause = (refl, (refl, tt))
  given_unparked k import args (outermost old) l (S.Value v) s pause =
      unparked_on (call_note import args old [] pause ∷ note (answered (S.Value v)) s ∷ []) (done_notes s l.entries) (refl, (refl, tt)) (on_unparked s l.entries)
  given_unparked k import args who l S.Trap s pause = (refl, (refl, (refl, tt)))

  pauses_unparked : (k import : ℕ) (args : List Value) (who : Asker) (l : Left) (a : Answer) (pause : Option ℕ)
      → TurnUnparked (held_pauses x plan k (call_note import args (store_at who) (stack_at p who) pause) import a l who)
  pauses_unparked k import args (inside (an_entry e) c) l a pause = (refl, tt)
  pauses_unparked k import args (inside the_start c) l a pause = tt
  pauses_unparked k import args (outermost s) l a pause = tt

  tested_unparked : (k import : ℕ) (args : List Value) (who : Asker) (l : Left) (a : Answer) (o : Option End) (pause : Option ℕ)
      → TurnUnparked (held_tested p x plan k import args who l a o pause)
  tested_unparked k import args who l a (Some e) pause = (refl, (refl, tt))
  tested_unparked k import args who l a None None = given_unparked k import args who l a.said (poked (store_at who) a.pokes) None
  tested_unparked k import args who l a None (Some ticks) = pauses_unparked k import args who l a (Some ticks)

  asked_unparked : (k import : ℕ) (args : List Value) (who : Asker) (l : Left) (os : List Outcome) → TurnUnparked (held_asked p x plan k import args who l os)
  asked_unparked k import args who l [] = (refl, tt)
  asked_unparked k import args who l (refused e ∷ os) = (refl, (refl, tt))
  asked_unparked k import args who l (given a ∷ os) =
      tested_unparked k import args who (with_outcomes l os) a (fault_of (func_type_at p import).results (length (store_at who).memory) plan (in_start who) import a) (pause_of a.ticks)

  busy_unparked : (ph : Phase) (l : Left) (o : Next) → TurnUnparked (busy_step p x plan ph l o)
  busy_unparked (is_running task) l (steps k d) = tt
  busy_unparked (unwinds e i a) l (steps k d) = tt
  busy_unparked (rewinds e i a sp) l (steps k d) = tt
  busy_unparked (is_running task) l (asks k import args d) = asked_unparked k import args (inside task d) l l.outcomes
  busy_unparked (unwinds e i a) l (asks k import args d) = (refl, tt)
  busy_unparked (rewinds e i a sp) l (asks k import args d) = by_import (nat_eq import i)
    where
      by_import : (b : Bool) → TurnUnparked (if b then goes k [] (calling (rewinds e i a sp) d.store x.get_state [] (test_rewound d) l) else broken k 3 d.store)
      by_import true = tt
      by_import false = (refl, tt)
  busy_unparked (is_running task) l (returns k results s) = back_unparked k task results s l
  busy_unparked (unwinds e i a) l (returns k results s) = tt
  busy_unparked (rewinds e i a sp) l (returns k results s) = (refl, tt)
  busy_unparked (is_running task) l (traps k trap s) = (refl, tt)
  busy_unparked (unwinds e i a) l (traps k trap s) = (refl, tt)
  busy_unparked (rewinds e i a sp) l (traps k trap s) = (refl, tt)
  busy_unparked (is_running task) l stuck = tt
  busy_unparked (unwinds e i a) l stuck = tt
  busy_unparked (rewinds e i a sp) l stuck = tt

  resumed_unparked : (k : ℕ) (e : Entry) (said : Said) (sp : Store) (c : Configuration) (l : Left) (s : Store) → TurnUnparked (held_resumed k e said sp c l s)
  resumed_unparked k e (S.Value v) sp c l s = (refl, tt)
  resumed_unparked k e S.Trap sp c l s = (refl, (refl, tt))

  back_aside : (k : ℕ) (ph : Phase) (th : Then) (l : Left) (results : List Value) (s : Store) → TurnUnparked (aside_back p x plan k ph th l results s)
  back_aside k (unwinds e i a) (give_zero c) l results s = tt
  back_aside k (unwinds e i a) test_unwound l results s = by_state (is_state 1 results)
    where
      by_state : (b : Bool) → TurnUnparked (if b then goes k [] (calling (unwinds e i a) s x.stop_unwind [] pause_there l) else broken k 2 s)
      by_state true = tt
      by_state false = (refl, tt)
  back_aside k (unwinds e i a) pause_there l results s = (refl, tt)
  back_aside k (rewinds e i a sp) call_again l results s = tt
  back_aside k (rewinds e i a sp) (test_rewound c) l results s = by_state (is_state 2 results)
    where
      by_state : (b : Bool) → TurnUnparked (if b then goes k [] (calling (rewinds e i a sp) s x.stop_rewind [] (give_answer c) l) else broken k 4 s)
      by_state true = tt
      by_state false = (refl, tt)
  back_aside k (rewinds e i a sp) (give_answer c) l results s = resumed_unparked k e a.said sp c l (poked s a.pokes)
  back_aside k (is_running task) th l results s = tt
  back_aside k (unwinds e i a) call_again l results s = tt
  back_aside k (unwinds e i a) (test_rewound c) l results s = tt
  back_aside k (unwinds e i a) (give_answer c) l results s = tt
  back_aside k (rewinds e i a sp) (give_zero c) l results s = tt
  back_aside k (rewinds e i a sp) test_unwound l results s = tt
  back_aside k (rewinds e i a sp) pause_there l results s = tt

  aside_unparked : (ph : Phase) (th : Then) (l : Left) (o : Next) → TurnUnparked (aside_step p x plan ph th l o)
  aside_unparked ph th l (steps k d) = tt
  aside_unparked ph th l (asks k import args d) = (refl, tt)
  aside_unparked ph th l (returns k results s) = back_aside k ph th l results s
  aside_unparked ph th l (traps k trap s) = (refl, tt)
  aside_unparked ph th l stuck = tt

  enters_unparked : (ph : Phase) (e : Entry) (s : Store) (l : Left) (o : Option Func) → TurnUnparked (busy_enters ph e s l o)
  enters_unparked ph e s l None = tt
  enters_unparked ph e s l (Some f) = tt

  next_unparked : (s : Store) (l : Left) (es : List Entry) → TurnUnparked (held_next p s l es)
  next_unparked s l [] = tt
  next_unparked s l (e ∷ es) = enters_unparked (is_running (an_entry e)) e s (record { number = l.number; entries = es; outcomes = l.outcomes }) (defined_at p e.func)

  called_unparked : (ph : Phase) (s : Store) (f : ℕ) (args : List Value) (th : Then) (l : Left) (o : Option Func) → TurnUnparked (aside_called ph s f args th l o)
  called_unparked ph s f args th l None = tt
  called_unparked ph s f args th l (Some g) = tt

  start_unparked : (f : ℕ) (s : Store) (l : Left) (o : Option Func) → TurnUnparked (held_start p x plan f s l o)
  start_unparked f s l (Some g) = tt
  start_unparked f s l None = by_import (nat_lt f (func_imports p))
    where
      by_import : (b : Bool) → TurnUnparked (if b then held_asked p x plan 0 f [] (outermost s) l l.outcomes else stops)
      by_import true = asked_unparked 0 f [] (outermost s) l l.outcomes
      by_import false = tt

  turn_unparked : (t : Held) → TurnUnparked (protocol p x plan t)
  turn_unparked (free s l) = next_unparked s l l.entries
  turn_unparked (starting f s l) = start_unparked f s l (defined_at p f)
  turn_unparked (busy ph c l) = busy_unparked ph l (step p c)
  turn_unparked (calling ph s f args th l) = called_unparked ph s f args th l (defined_at p f)
  turn_unparked (aside ph c th l) = aside_unparked ph th l (step p c)
  turn_unparked (entering ph e s l) = enters_unparked ph e s l (defined_at p e.func)
  turn_unparked (over s) = tt

  -- ---- runs

  run_unparked : (count n : ℕ) (t : Held) → Unparked (run_with (protocol p x plan) count n t).events
  run_unparked zero n t = tt
  run_unparked (suc count) n t = by_turn (protocol p x plan t) (turn_unparked t) (λ m u. run_unparked count m u)
    where
      by_turn : (o : Turn Held Note) → TurnUnparked o → ((m : ℕ) (u : Held) → Unparked (run_with (protocol p x plan) count m u).events)
          → Unparked (pay (run_with (protocol p x plan) count) n t o).events
      by_turn stops w more = tt
      by_turn (goes k es u) w more = by_cost (nat_lt k n)
        where
          by_cost : (b : Bool) → Unparked (if b then after es (run_with (protocol p x plan) count (n - suc k) u) else still t).events
          by_cost true = unparked_on es (run_with (protocol p x plan) count (n - suc k) u).events w (more (n - suc k) u)
          by_cost false = tt

  begun_unparked : (start : Option ℕ) (l : Left) (o : Opening) → Unparked (held_begun start l o).events
  begun_unparked start l (fails_as e) = (refl, tt)
  begun_unparked None l (opens s) = on_unparked s l.entries
  begun_unparked (Some f) l (opens s) = tt

unless_unparked : (n : ℕ) (h : Held) → Unparked (unless_over n h)
unless_unparked n (free s l) = (refl, tt)
unless_unparked n (starting f s l) = (refl, tt)
unless_unparked n (busy ph c l) = (refl, tt)
unless_unparked n (calling ph s f args th l) = (refl, tt)
unless_unparked n (aside ph c th l) = (refl, tt)
unless_unparked n (entering ph e s l) = (refl, tt)
unless_unparked n (over s) = tt

-- No note of a story does.
pub story_unparked : (w : Program) (os : List Outcome) → Unparked (protocol_story w os)
story_unparked w os = by w.origin
  where
    ran : (n : ℕ) (r : Ran Held Note) → Unparked r.events → Unparked (told_by w.steps (after r.events (run (protocol w.source (exports_of w.source) w.plan) n r.last)))
    ran n r h =
        let rest : Ran Held Note = run (protocol w.source (exports_of w.source) w.plan) n r.last in
        unparked_on (r.events ++ rest.events) (unless_over w.steps rest.last) (unparked_on r.events rest.events h (run_unparked w.source (exports_of w.source) w.plan n n r.last))
        (unless_unparked w.steps rest.last)

    by : (o : Origin) → Unparked (story_from w os o)
    by at_start =
        ran w.steps (held_begun w.source.start (all_left w.plan os) (opening w.source w.plan.globals))
        (begun_unparked w.source (exports_of w.source) w.plan w.source.start (all_left w.plan os) (opening w.source w.plan.globals))
    by gone = tt
    by (at_pause x) = ran (w.steps - x.used) (still (halted w.source w.plan x os)) tt
