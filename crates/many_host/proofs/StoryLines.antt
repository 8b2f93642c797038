-- How many lines a program's story has: each step makes three notes at most, and there is one end, behind which memory is shown.
use Rattle.std.proofs.Common.{arith, ◌≡◌, ◌≤◌, ◌<◌, ℕ, zero, suc, ◌+◌, ◌-◌, ◌*◌, List, [], ◌∷◌, ◌++◌, length, Option, Some, None, Bool, true, false, cond, refl, ap, length-append}
use Rattle.std.specs.Prelude.{nat_lt, nat_eq, slice_get}
use Rattle.std.proofs.lemmas.Bool.{ltb-true}
use Rattle.std.proofs.lemmas.List.{length-map}
use Rattle.wa_types.specs.declared.values.Value.{Value}
use Rattle.wa_types.specs.Modules.{defined_at, func_imports, func_type_at}
use Rattle.wa_types.specs.Syntax.{Func, Module}
use Rattle.wa_model.specs.declared.answers.Said.{Said}
use Rattle.wa_model.specs.declared.answers.Said.TheVariants as SV
use Rattle.wa_model.specs.declared.events.End.{End}
use Rattle.wa_model.specs.Machine.{Turn, stops, goes, Ran, after, still, pay, run_with, run}
use Rattle.wa_model.specs.Outside.{Answer, Event, called, answered, paused, parked, returned, ended, shown}
use Rattle.wa_model.specs.Store.{Store}
use Rattle.wa_model.specs.Configuration.{Configuration}
use Rattle.wa_model.specs.Step.{Next, steps, asks, returns, traps, stuck, step}
use Rattle.wa_model.specs.Plan.{Entry, Plan, Outcome, given, refused}
use Rattle.wa_model.specs.Instantiation.{Opening, fails_as, opens, opening}
use Rattle.wa_model.specs.Blocking.{Note, call_note, fault_of, pause_of, poked, done_notes, Task, the_start, an_entry, Left, with_outcomes, all_left, Asker, inside, outermost, store_at, stack_at, in_start, next_entry}
use Rattle.wa_model.specs.Protocol.{Exports, exports_of, Phase, is_running, unwinds, rewinds, Then, give_zero, test_unwound, pause_there, call_again, test_rewound, give_answer, Held, free, starting, busy, calling, aside, entering, over, protocol, held_continued, broken, held_on, held_back, held_given, held_resumed, held_ends, held_pauses, held_tested, held_asked, busy_step, is_state, aside_back, aside_step, busy_enters, held_next, aside_called, held_start, held_begun}
use Rattle.wa_model.specs.Behaves.{IsPrefix}
use Rattle.world_model.specs.World.{Halt, Origin, at_start, gone, at_pause, Look, Program, events_with_looks, halted, halted_in, is_end, looks_after, protocol_story, story_from, told_by, unless_over}

-- how many lines a note makes, with so many looks behind an end
abbrev end_lines : (looks : ℕ) → Bool → ℕ
end_lines looks true = suc looks
end_lines looks false = 1

abbrev pub lines_in : (looks : ℕ) → List Note → ℕ
lines_in looks [] = 0
lines_in looks (x ∷ xs) = end_lines looks (is_end x.event) + lines_in looks xs

pub lines_on : (looks : ℕ) (xs ys : List Note) → lines_in looks (xs ++ ys) ≡ lines_in looks xs + lines_in looks ys
lines_on looks [] ys = omega arith
lines_on looks (x ∷ xs) ys = let rest = lines_on looks xs ys in omega arith

-- no fewer than notes
some_lines : (looks : ℕ) (b : Bool) → 1 ≤ end_lines looks b
some_lines looks true = omega arith
some_lines looks false = omega arith

pub lines_many : (looks : ℕ) (xs : List Note) → length xs ≤ lines_in looks xs
lines_many looks [] = omega arith
lines_many looks (x ∷ xs) =
    let rest = lines_many looks xs in
    let one = some_lines looks (is_end x.event) in
    omega (arith, rest, one)

-- the events of notes, with the looks behind an end
note_made : (looks : List Look) (y : Note) (e : Event) → suc (length (looks_after looks y e)) ≡ end_lines (length looks) (is_end e)
note_made looks y (called c) = refl
note_made looks y (answered v) = refl
note_made looks y (paused ticks used) = refl
note_made looks y (returned entry v) = refl
note_made looks y (ended how) = ap suc (length-map looks _)
note_made looks y (parked used) = refl
note_made looks y (shown at bytes) = refl

pub lines_made : (looks : List Look) (xs : List Note) → length (events_with_looks looks xs) ≡ lines_in (length looks) xs
lines_made looks [] = refl
lines_made looks (x ∷ xs) =
    let rest = lines_made looks xs in
    let sum = length-append (x.event ∷ looks_after looks x x.event) (events_with_looks looks xs) in
    let first = note_made looks x x.event in
    omega (arith, rest, sum, first)

-- ---- the lines of an end, until it was told

abbrev owing : (looks : ℕ) → Held → ℕ
owing looks (free s l) = looks + 1
owing looks (starting f s l) = looks + 1
owing looks (busy ph c l) = looks + 1
owing looks (calling ph s f args th l) = looks + 1
owing looks (aside ph c th l) = looks + 1
owing looks (entering ph e s l) = looks + 1
owing looks (over s) = 0

module _ (looks : ℕ) (p : Module) (x : Exports) (plan : Plan) where
  -- A move from where so many lines may still be told without a step.
  abbrev Pays : ℕ → Turn Held Note → Type 0
  Pays n stops = Unit {0}
  Pays n (goes k es t) = lines_in looks es + owing looks t ≤ n + 3 * suc k

  -- once all entries have returned
  done_lines : (s : Store) (l : Left) (es : List Entry) → lines_in looks (done_notes s es) + owing looks (held_on s l es) ≤ looks + 1
  done_lines s l [] = omega arith
  done_lines s l (e ∷ es) = omega arith

  back_pays : (k : ℕ) (task : Task) (results : List Value) (s : Store) (l : Left) → Pays (looks + 1) (held_back k task results s l)
  back_pays k the_start results s l = let h = done_lines s l l.entries in omega arith
  back_pays k (an_entry e) results s l = let h = done_lines s (next_entry l) l.entries in omega arith

  given_pays : (k import : ℕ) (args : List Value) (s0 : Store) (said : Said) (s : Store) (l : Left) (who : Asker)
      → Pays (looks + 1) (held_given k (call_note import args s0 (stack_at p who) None) said s l who)
  given_pays k import args s0 (SV.Value v) s l (inside task c) = omega arith
  given_pays k import args s0 (SV.Value v) s l (outermost old) = let h = done_lines s l l.entries in omega arith
  given_pays k import args s0 SV.Trap s l who = omega arith

  resumed_pays : (k : ℕ) (e : Entry) (said : Said) (sp : Store) (c : Configuration) (l : Left) (s : Store) → Pays (looks + 1) (held_resumed k e said sp c l s)
  resumed_pays k e (SV.Value v) sp c l s = omega arith
  resumed_pays k e SV.Trap sp c l s = omega arith

  ends_pays : (k import : ℕ) (args : List Value) (who : Asker) (e : End) → Pays (looks + 1) (held_ends k (call_note import args (store_at who) (stack_at p who) None) e)
  ends_pays k import args who e = omega arith

  pauses_pays : (k ticks import : ℕ) (args : List Value) (a : Answer) (l : Left) (who who' : Asker)
      → Pays (looks + 1) (held_pauses x plan k (call_note import args (store_at who') (stack_at p who') (Some ticks)) import a l who)
  pauses_pays k ticks import args a l (inside (an_entry e) c) who' = omega arith
  pauses_pays k ticks import args a l (inside the_start c) who' = tt
  pauses_pays k ticks import args a l (outermost s) who' = tt

  tested_pays : (k import : ℕ) (args : List Value) (who : Asker) (l : Left) (a : Answer) (o : Option End) (pause : Option ℕ) → Pays (looks + 1) (held_tested p x plan k import args who l a o pause)
  tested_pays k import args who l a (Some e) pause = ends_pays k import args who e
  tested_pays k import args who l a None None = given_pays k import args (store_at who) a.said (poked (store_at who) a.pokes) l who
  tested_pays k import args who l a None (Some ticks) = pauses_pays k ticks import args a l who who

  asked_pays : (k import : ℕ) (args : List Value) (who : Asker) (l : Left) (os : List Outcome) → Pays (looks + 1) (held_asked p x plan k import args who l os)
  asked_pays k import args who l [] = omega arith
  asked_pays k import args who l (refused e ∷ os) = ends_pays k import args who e
  asked_pays k import args who l (given a ∷ os) =
      tested_pays k import args who (with_outcomes l os) a (fault_of (func_type_at p import).results (length (store_at who).memory) plan (in_start who) import a) (pause_of a.ticks)

  busy_pays : (ph : Phase) (l : Left) (o : Next) → Pays (looks + 1) (busy_step p x plan ph l o)
  busy_pays ph l (steps k d) = omega arith
  busy_pays (is_running task) l (asks k import args d) = asked_pays k import args (inside task d) l l.outcomes
  busy_pays (unwinds e i a) l (asks k import args d) = omega arith
  busy_pays (rewinds e i a s0) l (asks k import args d) = by_import (nat_eq import i)
    where
      by_import : (b : Bool) → Pays (looks + 1) (cond b (goes k [] (calling (rewinds e i a s0) d.store x.get_state [] (test_rewound d) l)) (broken k 3 d.store))
      by_import true = omega arith
      by_import false = omega arith
  busy_pays (is_running task) l (returns k results s) = back_pays k task results s l
  busy_pays (unwinds e i a) l (returns k results s) = omega arith
  busy_pays (rewinds e i a s0) l (returns k results s) = omega arith
  busy_pays ph l (traps k trap s) = omega arith
  busy_pays ph l stuck = tt

  back_aside : (k : ℕ) (ph : Phase) (th : Then) (l : Left) (results : List Value) (s : Store) → Pays (looks + 1) (aside_back p x plan k ph th l results s)
  back_aside k (unwinds e i a) (give_zero c) l results s = omega arith
  back_aside k (unwinds e i a) test_unwound l results s = by_state (is_state 1 results)
    where
      by_state : (b : Bool) → Pays (looks + 1) (cond b (goes k [] (calling (unwinds e i a) s x.stop_unwind [] pause_there l)) (broken k 2 s))
      by_state true = omega arith
      by_state false = omega arith
  back_aside k (unwinds e i a) pause_there l results s = omega arith
  back_aside k (rewinds e i a s0) call_again l results s = omega arith
  back_aside k (rewinds e i a s0) (test_rewound c) l results s = by_state (is_state 2 results)
    where
      by_state : (b : Bool) → Pays (looks + 1) (cond b (goes k [] (calling (rewinds e i a s0) s x.stop_rewind [] (give_answer c) l)) (broken k 4 s))
      by_state true = omega arith
      by_state false = omega arith
  back_aside k (rewinds e i a s0) (give_answer c) l results s = resumed_pays k e a.said s0 c l (poked s a.pokes)
  back_aside k _ _ l results s = tt

  aside_pays : (ph : Phase) (th : Then) (l : Left) (o : Next) → Pays (looks + 1) (aside_step p x plan ph th l o)
  aside_pays ph th l (steps k d) = omega arith
  aside_pays ph th l (asks k import args d) = omega arith
  aside_pays ph th l (returns k results s) = back_aside k ph th l results s
  aside_pays ph th l (traps k trap s) = omega arith
  aside_pays ph th l stuck = tt

  next_pays : (s : Store) (l : Left) (es : List Entry) → Pays (looks + 1) (held_next p s l es)
  next_pays s l [] = tt
  next_pays s l (e ∷ es) = by (defined_at p e.func)
    where
      by : (o : Option Func) → Pays (looks + 1) (busy_enters (is_running (an_entry e)) e s (record { number = l.number; entries = es; outcomes = l.outcomes }) o)
      by None = tt
      by (Some f) = omega arith

  called_pays : (ph : Phase) (s : Store) (f : ℕ) (args : List Value) (th : Then) (l : Left) (o : Option Func) → Pays (looks + 1) (aside_called ph s f args th l o)
  called_pays ph s f args th l None = tt
  called_pays ph s f args th l (Some g) = omega arith

  enters_pays : (ph : Phase) (e : Entry) (s : Store) (l : Left) (o : Option Func) → Pays (looks + 1) (busy_enters ph e s l o)
  enters_pays ph e s l None = tt
  enters_pays ph e s l (Some f) = omega arith

  start_pays : (f : ℕ) (s : Store) (l : Left) (o : Option Func) → Pays (looks + 1) (held_start p x plan f s l o)
  start_pays f s l (Some g) = omega arith
  start_pays f s l None = by_import (nat_lt f (func_imports p))
    where
      by_import : (b : Bool) → Pays (looks + 1) (cond b (held_asked p x plan 0 f [] (outermost s) l l.outcomes) stops)
      by_import true = asked_pays 0 f [] (outermost s) l l.outcomes
      by_import false = tt

  -- one move
  turn_pays : (h : Held) → Pays (owing looks h) (protocol p x plan h)
  turn_pays (free s l) = next_pays s l l.entries
  turn_pays (starting f s l) = start_pays f s l (defined_at p f)
  turn_pays (busy ph c l) = busy_pays ph l (step p c)
  turn_pays (calling ph s f args th l) = called_pays ph s f args th l (defined_at p f)
  turn_pays (aside ph c th l) = aside_pays ph th l (step p c)
  turn_pays (entering ph e s l) = enters_pays ph e s l (defined_at p e.func)
  turn_pays (over s) = tt

  -- a run of so many steps
  abbrev RanPays : ℕ → Ran Held Note → Type 0
  RanPays n r = lines_in looks r.events + owing looks r.last ≤ n

  pay_pays : (on : ℕ → Held → Ran Held Note) (n : ℕ) (h : Held) (t : Turn Held Note) → ((k : ℕ) (u : Held) → RanPays (owing looks u + 3 * k) (on k u)) → Pays (owing looks h) t
      → RanPays (owing looks h + 3 * n) (pay on n h t)
  pay_pays on n h stops each k = omega arith
  pay_pays on n h (goes j es t) each k = by_cost (nat_lt j n) refl
    where
      by_cost : (b : Bool) → nat_lt j n ≡ b → RanPays (owing looks h + 3 * n) (cond b (after es (on (n - suc j) t)) (still h))
      by_cost true e =
          let lt : j < n = ltb-true j n e in
          let rest = each (n - suc j) t in
          let sum = lines_on looks es (on (n - suc j) t).events in
          omega (arith, lt, rest, sum, k)
      by_cost false e = omega arith

  run_with_pays : (moves n : ℕ) (h : Held) → RanPays (owing looks h + 3 * n) (run_with (protocol p x plan) moves n h)
  run_with_pays zero n h = omega arith
  run_with_pays (suc moves) n h = pay_pays (run_with (protocol p x plan) moves) n h (protocol p x plan h) (run_with_pays moves) (turn_pays h)

  -- behind what stands before the first move
  after_pays : (n : ℕ) (r : Ran Held Note) → RanPays (looks + 1) r → RanPays (looks + 1 + 3 * n) (after r.events (run (protocol p x plan) n r.last))
  after_pays n r h =
      let ran = run_with_pays n n r.last in
      let sum = lines_on looks r.events (run (protocol p x plan) n r.last).events in
      omega (arith, h, ran, sum)

  begun_pays : (start : Option ℕ) (l : Left) (o : Opening) → RanPays (looks + 1) (held_begun start l o)
  begun_pays start l (fails_as how) = omega arith
  begun_pays None l (opens s) = done_lines s l l.entries
  begun_pays (Some f) l (opens s) = omega arith

-- what stands behind the last move
over_lines : (looks n : ℕ) (h : Held) → lines_in looks (unless_over n h) ≤ owing looks h
over_lines looks n (free s l) = omega arith
over_lines looks n (starting f s l) = omega arith
over_lines looks n (busy ph c l) = omega arith
over_lines looks n (calling ph s f args th l) = omega arith
over_lines looks n (aside ph c th l) = omega arith
over_lines looks n (entering ph e s l) = omega arith
over_lines looks n (over s) = omega arith

-- by where a program begins: a run that goes on from there is told
module _ (looks : ℕ) (w : Program) where
  told_lines : (n : ℕ) (r : Ran Held Note) → RanPays looks w.source (exports_of w.source) w.plan (looks + 1) r → n ≤ w.steps
      → lines_in looks (told_by w.steps (held_continued w.source w.plan n r)) ≤ looks + 1 + 3 * w.steps
  told_lines n r h le =
      let all : Ran Held Note = held_continued w.source w.plan n r in
      let made = after_pays looks w.source (exports_of w.source) w.plan n r h in
      let rest = over_lines looks w.steps all.last in
      let sum = lines_on looks all.events (unless_over w.steps all.last) in
      omega (arith, made, rest, sum, le)

  halted_pays : (x : Halt) (os : List Outcome) (e : Option Entry) → RanPays looks w.source (exports_of w.source) w.plan (looks + 1) (still (halted_in w.source w.plan x os e))
  halted_pays x os None = omega arith
  halted_pays x os (Some e) = omega arith

  lines_from : (os : List Outcome) (o : Origin) → lines_in looks (story_from w os o) ≤ looks + 1 + 3 * w.steps
  lines_from os at_start =
      let begun : Ran Held Note = held_begun w.source.start (all_left w.plan os) (opening w.source w.plan.globals) in
      told_lines w.steps begun (begun_pays looks w.source (exports_of w.source) w.plan w.source.start (all_left w.plan os) (opening w.source w.plan.globals)) (omega arith)
  lines_from os gone = omega arith
  lines_from os (at_pause x) =
      told_lines (w.steps - x.used) (still (halted w.source w.plan x os)) (halted_pays x os (slice_get w.plan.entries x.entry)) (omega arith)

-- A program's story has three lines a step at most, those of its looks, and one.
pub story_lines : (looks : ℕ) (w : Program) (os : List Outcome) → lines_in looks (protocol_story w os) ≤ looks + 1 + 3 * w.steps
story_lines looks w os = lines_from looks w os w.origin

-- So has each beginning of it.
pub begun_lines : (looks : ℕ) (w : Program) (os : List Outcome) (notes : List Note) → IsPrefix notes (protocol_story w os) → lines_in looks notes ≤ looks + 1 + 3 * w.steps
begun_lines looks w os notes h =
    let all = story_lines looks w os in
    let parts = ap (lines_in looks) h.1 in
    let sum = lines_on looks notes h.0 in
    omega (arith, all, parts, sum)
