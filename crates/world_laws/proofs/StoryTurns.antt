-- How many turns a program's story has: each pause costs eight steps at least, and there is one end.
use Rattle.std.proofs.Common.{arith, ◌≡◌, ◌≤◌, ◌<◌, ℕ, zero, suc, ◌+◌, ◌-◌, ◌*◌, List, [], ◌∷◌, ◌++◌, length, Option, Some, None, Bool, true, false, cond, refl, ap}
use Rattle.std.specs.Prelude.{nat_lt, nat_eq, slice_get}
use Rattle.std.proofs.lemmas.Bool.{ltb-true}
use Rattle.wa_types.specs.declared.values.Value.{Value}
use Rattle.wa_types.specs.Modules.{defined_at, func_imports, func_type_at}
use Rattle.wa_types.specs.Syntax.{Func, Module}
use Rattle.wa_model.specs.declared.answers.Said.{Said}
use Rattle.wa_model.specs.declared.answers.Said.TheVariants as SV
use Rattle.wa_model.specs.declared.events.End.{End}
use Rattle.wa_model.specs.Machine.{Turn, stops, goes, Ran, after, still, pay, run_with, run}
use Rattle.wa_model.specs.Outside.{Answer}
use Rattle.wa_model.specs.Store.{Store}
use Rattle.wa_model.specs.Configuration.{Configuration}
use Rattle.wa_model.specs.Step.{Next, steps, asks, returns, traps, stuck, step}
use Rattle.wa_model.specs.Plan.{Entry, Plan, Outcome, given, refused}
use Rattle.wa_model.specs.Instantiation.{Opening, fails_as, opens, opening}
use Rattle.wa_model.specs.Blocking.{Note, call_note, fault_of, pause_of, poked, done_notes, Task, the_start, an_entry, Left, with_outcomes, all_left, Asker, inside, outermost, store_at, stack_at, in_start, next_entry}
use Rattle.wa_model.specs.Protocol.{Exports, exports_of, Phase, is_running, unwinds, rewinds, Then, give_zero, test_unwound, pause_there, call_again, test_rewound, give_answer, Held, free, starting, busy, calling, aside, entering, over, protocol, held_continued, broken, held_on, held_back, held_given, held_resumed, held_ends, held_pauses, held_tested, held_asked, busy_step, is_state, aside_back, aside_step, busy_enters, held_next, aside_called, held_start, held_begun}
use Rattle.wa_model.specs.Behaves.{IsPrefix}
use Rattle.world_model.specs.World.{Halt, Origin, at_start, gone, at_pause, Program, ends_turn, halted, halted_in, protocol_story, story_from, told_by, unless_over}

-- how many of the notes end a turn
abbrev pub one_if : Bool → ℕ
one_if true = 1
one_if false = 0

abbrev pub turns_in : List Note → ℕ
turns_in [] = 0
turns_in (x ∷ xs) = one_if (ends_turn x.event) + turns_in xs

pub turns_on : (xs ys : List Note) → turns_in (xs ++ ys) ≡ turns_in xs + turns_in ys
turns_on [] ys = omega arith
turns_on (x ∷ xs) ys = let rest = turns_on xs ys in omega arith

-- ---- what has been paid for a turn's end

-- for a phase with what the host does next
abbrev paid_to : (unwinding : ℕ) → Phase → ℕ
paid_to n (unwinds e i a) = n
paid_to n _ = 8

-- while an export is called, and while it runs
abbrev paid_called : Then → ℕ
paid_called (give_zero c) = 9
paid_called test_unwound = 12
paid_called _ = 14

abbrev paid_aside : Then → ℕ
paid_aside (give_zero c) = 10
paid_aside test_unwound = 13
paid_aside _ = 15

-- where a run stands
abbrev paid : Held → ℕ
paid (free s l) = 8
paid (starting f s l) = 8
paid (busy ph c l) = paid_to 11 ph
paid (calling ph s f args th l) = paid_to (paid_called th) ph
paid (aside ph c th l) = paid_to (paid_aside th) ph
paid (entering ph e s l) = paid_to 11 ph
paid (over s) = 0

-- eight at least
eight_called : (th : Then) → 8 ≤ paid_called th
eight_called (give_zero c) = omega arith
eight_called test_unwound = omega arith
eight_called pause_there = omega arith
eight_called call_again = omega arith
eight_called (test_rewound c) = omega arith
eight_called (give_answer c) = omega arith

eight_aside : (th : Then) → 8 ≤ paid_aside th
eight_aside (give_zero c) = omega arith
eight_aside test_unwound = omega arith
eight_aside pause_there = omega arith
eight_aside call_again = omega arith
eight_aside (test_rewound c) = omega arith
eight_aside (give_answer c) = omega arith

eight_to : (n : ℕ) (ph : Phase) → 8 ≤ n → 8 ≤ paid_to n ph
eight_to n (is_running task) h = omega arith
eight_to n (unwinds e i a) h = h
eight_to n (rewinds e i a s) h = omega arith

-- an export that is called runs
called_aside : (th : Then) (ph : Phase) → paid_to (paid_aside th) ph ≤ paid_to (paid_called th) ph + 1
called_aside (give_zero c) (unwinds e i a) = omega arith
called_aside test_unwound (unwinds e i a) = omega arith
called_aside pause_there (unwinds e i a) = omega arith
called_aside call_again (unwinds e i a) = omega arith
called_aside (test_rewound c) (unwinds e i a) = omega arith
called_aside (give_answer c) (unwinds e i a) = omega arith
called_aside th (is_running task) = omega arith
called_aside th (rewinds e i a s) = omega arith

module _ (p : Module) (x : Exports) (plan : Plan) where
  -- A move from where so much has been paid: its ends of turns are paid for, eight each.
  abbrev Pays : ℕ → Turn Held Note → Type 0
  Pays n stops = Unit {0}
  Pays n (goes k es t) = 8 * turns_in es + paid t ≤ n + suc k

  -- once all entries have returned
  done_turns : (s : Store) (l : Left) (es : List Entry) → 8 * turns_in (done_notes s es) + paid (held_on s l es) ≤ 8
  done_turns s l [] = omega arith
  done_turns s l (e ∷ es) = omega arith

  back_pays : (k : ℕ) (task : Task) (results : List Value) (s : Store) (l : Left) → Pays 8 (held_back k task results s l)
  back_pays k the_start results s l = let h = done_turns s l l.entries in omega arith
  back_pays k (an_entry e) results s l = let h = done_turns s (next_entry l) l.entries in omega arith

  given_pays : (k import : ℕ) (args : List Value) (s0 : Store) (said : Said) (s : Store) (l : Left) (who : Asker)
      → Pays 8 (held_given k (call_note import args s0 (stack_at p who) None) said s l who)
  given_pays k import args s0 (SV.Value v) s l (inside task c) = omega arith
  given_pays k import args s0 (SV.Value v) s l (outermost old) = let h = done_turns s l l.entries in omega arith
  given_pays k import args s0 SV.Trap s l who = omega arith

  resumed_pays : (k : ℕ) (e : Entry) (said : Said) (sp : Store) (c : Configuration) (l : Left) (s : Store) → Pays 8 (held_resumed k e said sp c l s)
  resumed_pays k e (SV.Value v) sp c l s = omega arith
  resumed_pays k e SV.Trap sp c l s = omega arith

  ends_pays : (k import : ℕ) (args : List Value) (who : Asker) (e : End) → Pays 8 (held_ends k (call_note import args (store_at who) (stack_at p who) None) e)
  ends_pays k import args who e = omega arith

  pauses_pays : (k ticks import : ℕ) (args : List Value) (a : Answer) (l : Left) (who who' : Asker)
      → Pays 8 (held_pauses x plan k (call_note import args (store_at who') (stack_at p who') (Some ticks)) import a l who)
  pauses_pays k ticks import args a l (inside (an_entry e) c) who' = omega arith
  pauses_pays k ticks import args a l (inside the_start c) who' = tt
  pauses_pays k ticks import args a l (outermost s) who' = tt

  tested_pays : (k import : ℕ) (args : List Value) (who : Asker) (l : Left) (a : Answer) (o : Option End) (pause : Option ℕ) → Pays 8 (held_tested p x plan k import args who l a o pause)
  tested_pays k import args who l a (Some e) pause = ends_pays k import args who e
  tested_pays k import args who l a None None = given_pays k import args (store_at who) a.said (poked (store_at who) a.pokes) l who
  tested_pays k import args who l a None (Some ticks) = pauses_pays k ticks import args a l who who

  asked_pays : (k import : ℕ) (args : List Value) (who : Asker) (l : Left) (os : List Outcome) → Pays 8 (held_asked p x plan k import args who l os)
  asked_pays k import args who l [] = omega arith
  asked_pays k import args who l (refused e ∷ os) = ends_pays k import args who e
  asked_pays k import args who l (given a ∷ os) =
      tested_pays k import args who (with_outcomes l os) a (fault_of (func_type_at p import).results (length (store_at who).memory) plan (in_start who) import a) (pause_of a.ticks)

  busy_pays : (ph : Phase) (l : Left) (o : Next) → Pays (paid_to 11 ph) (busy_step p x plan ph l o)
  busy_pays ph l (steps k d) = omega arith
  busy_pays (is_running task) l (asks k import args d) = asked_pays k import args (inside task d) l l.outcomes
  busy_pays (unwinds e i a) l (asks k import args d) = omega arith
  busy_pays (rewinds e i a s0) l (asks k import args d) = by_import (nat_eq import i)
    where
      by_import : (b : Bool) → Pays 8 (cond b (goes k [] (calling (rewinds e i a s0) d.store x.get_state [] (test_rewound d) l)) (broken k 3 d.store))
      by_import true = omega arith
      by_import false = omega arith
  busy_pays (is_running task) l (returns k results s) = back_pays k task results s l
  busy_pays (unwinds e i a) l (returns k results s) = omega arith
  busy_pays (rewinds e i a s0) l (returns k results s) = omega arith
  busy_pays ph l (traps k trap s) = let h = eight_to 11 ph (omega arith) in omega arith
  busy_pays ph l stuck = tt

  back_aside : (k : ℕ) (ph : Phase) (th : Then) (l : Left) (results : List Value) (s : Store) → Pays (paid_to (paid_aside th) ph) (aside_back p x plan k ph th l results s)
  back_aside k (unwinds e i a) (give_zero c) l results s = omega arith
  back_aside k (unwinds e i a) test_unwound l results s = by_state (is_state 1 results)
    where
      by_state : (b : Bool) → Pays 13 (cond b (goes k [] (calling (unwinds e i a) s x.stop_unwind [] pause_there l)) (broken k 2 s))
      by_state true = omega arith
      by_state false = omega arith
  back_aside k (unwinds e i a) pause_there l results s = omega arith
  back_aside k (rewinds e i a s0) call_again l results s = omega arith
  back_aside k (rewinds e i a s0) (test_rewound c) l results s = by_state (is_state 2 results)
    where
      by_state : (b : Bool) → Pays 8 (cond b (goes k [] (calling (rewinds e i a s0) s x.stop_rewind [] (give_answer c) l)) (broken k 4 s))
      by_state true = omega arith
      by_state false = omega arith
  back_aside k (rewinds e i a s0) (give_answer c) l results s = resumed_pays k e a.said s0 c l (poked s a.pokes)
  back_aside k _ _ l results s = tt

  aside_pays : (ph : Phase) (th : Then) (l : Left) (o : Next) → Pays (paid_to (paid_aside th) ph) (aside_step p x plan ph th l o)
  aside_pays ph th l (steps k d) = omega arith
  aside_pays ph th l (asks k import args d) = let h = eight_to (paid_aside th) ph (eight_aside th) in omega arith
  aside_pays ph th l (returns k results s) = back_aside k ph th l results s
  aside_pays ph th l (traps k trap s) = let h = eight_to (paid_aside th) ph (eight_aside th) in omega arith
  aside_pays ph th l stuck = tt

  next_pays : (s : Store) (l : Left) (es : List Entry) → Pays 8 (held_next p s l es)
  next_pays s l [] = tt
  next_pays s l (e ∷ es) = by (defined_at p e.func)
    where
      by : (o : Option Func) → Pays 8 (busy_enters (is_running (an_entry e)) e s (record { number = l.number; entries = es; outcomes = l.outcomes }) o)
      by None = tt
      by (Some f) = omega arith

  called_pays : (ph : Phase) (s : Store) (f : ℕ) (args : List Value) (th : Then) (l : Left) (o : Option Func) → Pays (paid_to (paid_called th) ph) (aside_called ph s f args th l o)
  called_pays ph s f args th l None = tt
  called_pays ph s f args th l (Some g) = let h = called_aside th ph in omega arith

  enters_pays : (ph : Phase) (e : Entry) (s : Store) (l : Left) (o : Option Func) → Pays (paid_to 11 ph) (busy_enters ph e s l o)
  enters_pays ph e s l None = tt
  enters_pays ph e s l (Some f) = omega arith

  start_pays : (f : ℕ) (s : Store) (l : Left) (o : Option Func) → Pays 8 (held_start p x plan f s l o)
  start_pays f s l (Some g) = omega arith
  start_pays f s l None = by_import (nat_lt f (func_imports p))
    where
      by_import : (b : Bool) → Pays 8 (cond b (held_asked p x plan 0 f [] (outermost s) l l.outcomes) stops)
      by_import true = asked_pays 0 f [] (outermost s) l l.outcomes
      by_import false = tt

  -- one move
  turn_pays : (h : Held) → Pays (paid h) (protocol p x plan h)
  turn_pays (free s l) = next_pays s l l.entries
  turn_pays (starting f s l) = start_pays f s l (defined_at p f)
  turn_pays (busy ph c l) = busy_pays ph l (step p c)
  turn_pays (calling ph s f args th l) = called_pays ph s f args th l (defined_at p f)
  turn_pays (aside ph c th l) = aside_pays ph th l (step p c)
  turn_pays (entering ph e s l) = enters_pays ph e s l (defined_at p e.func)
  turn_pays (over s) = tt

  -- a run of so many steps
  abbrev RanPays : ℕ → Ran Held Note → Type 0
  RanPays n r = 8 * turns_in r.events + paid r.last ≤ n

  pay_pays : (on : ℕ → Held → Ran Held Note) (n : ℕ) (h : Held) (t : Turn Held Note) → ((k : ℕ) (u : Held) → RanPays (paid u + k) (on k u)) → Pays (paid h) t
      → RanPays (paid h + n) (pay on n h t)
  pay_pays on n h stops each k = omega arith
  pay_pays on n h (goes j es t) each k = by_cost (nat_lt j n) refl
    where
      by_cost : (b : Bool) → nat_lt j n ≡ b → RanPays (paid h + n) (cond b (after es (on (n - suc j) t)) (still h))
      by_cost true e =
          let lt : j < n = ltb-true j n e in
          let rest = each (n - suc j) t in
          let sum = turns_on es (on (n - suc j) t).events in
          omega (arith, lt, rest, sum, k)
      by_cost false e = omega arith

  run_with_pays : (moves n : ℕ) (h : Held) → RanPays (paid h + n) (run_with (protocol p x plan) moves n h)
  run_with_pays zero n h = omega arith
  run_with_pays (suc moves) n h = pay_pays (run_with (protocol p x plan) moves) n h (protocol p x plan h) (run_with_pays moves) (turn_pays h)

  -- behind what stands before the first move
  after_pays : (n : ℕ) (r : Ran Held Note) → RanPays 8 r → RanPays (8 + n) (after r.events (run (protocol p x plan) n r.last))
  after_pays n r h =
      let ran = run_with_pays n n r.last in
      let sum = turns_on r.events (run (protocol p x plan) n r.last).events in
      omega (arith, h, ran, sum)

  begun_pays : (start : Option ℕ) (l : Left) (o : Opening) → RanPays 8 (held_begun start l o)
  begun_pays start l (fails_as how) = omega arith
  begun_pays None l (opens s) = done_turns s l l.entries
  begun_pays (Some f) l (opens s) = omega arith

-- what stands behind the last move
over_pays : (n : ℕ) (h : Held) → 8 * turns_in (unless_over n h) ≤ paid h
over_pays n (free s l) = omega arith
over_pays n (starting f s l) = omega arith
over_pays n (busy ph c l) = let h = eight_to 11 ph (omega arith) in omega arith
over_pays n (calling ph s f args th l) = let h = eight_to (paid_called th) ph (eight_called th) in omega arith
over_pays n (aside ph c th l) = let h = eight_to (paid_aside th) ph (eight_aside th) in omega arith
over_pays n (entering ph e s l) = let h = eight_to 11 ph (omega arith) in omega arith
over_pays n (over s) = omega arith

-- by where a program begins: a run that goes on from there is told
module _ (w : Program) where
  told_turns : (n : ℕ) (r : Ran Held Note) → RanPays w.source (exports_of w.source) w.plan 8 r → n ≤ w.steps → 8 * turns_in (told_by w.steps (held_continued w.source w.plan n r)) ≤ w.steps + 8
  told_turns n r h le =
      let all : Ran Held Note = held_continued w.source w.plan n r in
      let made = after_pays w.source (exports_of w.source) w.plan n r h in
      let rest = over_pays w.steps all.last in
      let sum = turns_on all.events (unless_over w.steps all.last) in
      omega (arith, made, rest, sum, le)

  halted_pays : (x : Halt) (os : List Outcome) (e : Option Entry) → RanPays w.source (exports_of w.source) w.plan 8 (still (halted_in w.source w.plan x os e))
  halted_pays x os None = omega arith
  halted_pays x os (Some e) = omega arith

  turns_from : (os : List Outcome) (o : Origin) → 8 * turns_in (story_from w os o) ≤ w.steps + 8
  turns_from os at_start =
      let begun : Ran Held Note = held_begun w.source.start (all_left w.plan os) (opening w.source w.plan.globals) in
      told_turns w.steps begun (begun_pays w.source (exports_of w.source) w.plan w.source.start (all_left w.plan os) (opening w.source w.plan.globals)) (omega arith)
  turns_from os gone = omega arith
  turns_from os (at_pause x) =
      told_turns (w.steps - x.used) (still (halted w.source w.plan x os)) (halted_pays x os (slice_get w.plan.entries x.entry)) (omega arith)

-- A program's story has a turn more than an eighth of its steps at most.
pub story_turns : (w : Program) (os : List Outcome) → 8 * turns_in (protocol_story w os) ≤ w.steps + 8
story_turns w os = turns_from w os w.origin

-- So has each beginning of it.
pub begun_turns : (w : Program) (os : List Outcome) (notes : List Note) → IsPrefix notes (protocol_story w os) → 8 * turns_in notes ≤ w.steps + 8
begun_turns w os notes h =
    let all = story_turns w os in
    let parts = ap turns_in h.1 in
    let sum = turns_on notes h.0 in
    omega (arith, all, parts, sum)
