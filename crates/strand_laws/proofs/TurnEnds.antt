-- A strand's moves, under the protocol and with blocking imports: only the last note of a move may end a turn.
use Rattle.std.proofs.Common.{◌≡◌, ℕ, List, [], ◌∷◌, Option, Some, None, Bool, true, false, refl, length}
use Rattle.std.specs.Prelude.{if◌then◌else◌, nat_eq, nat_lt}
use Rattle.wa_types.specs.declared.values.Value.{Value}
use Rattle.wa_types.specs.Modules.{defined_at, func_imports, func_type_at}
use Rattle.wa_types.specs.Syntax.{Func, Module}
use Rattle.wa_model.specs.declared.answers.Said.{Said}
use Rattle.wa_model.specs.declared.answers.Said.TheVariants as S
use Rattle.wa_model.specs.declared.events.End.{End}
use Rattle.wa_model.specs.Outside.{Answer, answered, returned}
use Rattle.wa_model.specs.Blocking.{Asker, Left, Note, State, Task, an_entry, asked, begins, between, blocking, by_step, call_note, done_notes, enter_next, enters, fault_of, go_on, halts}
use Rattle.wa_model.specs.Blocking.{in_start, inside, is_start, note, outermost, pause_of, poked, runs, stack_at, start_called, store_at, task_back, tested, the_start, value_of_results}
use Rattle.wa_model.specs.Blocking.{with_outcomes}
use Rattle.wa_model.specs.Configuration.{Configuration}
use Rattle.wa_model.specs.Expected.{pause_note, trap_note}
use Rattle.wa_model.specs.Instantiation.{Opening, fails_as, opens}
use Rattle.wa_model.specs.Machine.{Turn, goes, stops}
use Rattle.wa_model.specs.Plan.{Entry, Outcome, Plan, given, refused}
use Rattle.wa_model.specs.Protocol.{Exports, Held, Phase, Then, aside, aside_back, aside_called, aside_step, busy, busy_enters, busy_step, call_again, calling, entering, free, give_answer}
use Rattle.wa_model.specs.Protocol.{give_zero, held_asked, held_back, held_begun, held_given, held_next, held_pauses, held_resumed, held_start, held_tested, is_running, is_state, over}
use Rattle.wa_model.specs.Protocol.{pause_there, protocol, rewinds, starting, test_rewound, test_unwound, unwinds}
use Rattle.wa_model.specs.Step.{Next, asks, returns, step, steps, stuck, traps}
use Rattle.wa_model.specs.Store.{Store}
use Rattle.wa_model.specs.Blocking.{begun}
use Rattle.world_model.specs.World.{ends_turn}
use Rattle.headline.specs.Told.{answer_notes}
use Rattle.strand_laws.specs.Strands.{Space, Strung, held_wakes, lifted, on, strung, strung_asked, strung_next, strung_pauses, strung_tested, strung_wakes, waits}

-- only the last of these may end a turn
abbrev pub Chunk : List Note → Type 0
Chunk [] = Unit {0}
Chunk (x ∷ []) = Unit {0}
Chunk (x ∷ y ∷ ys) = (ends_turn x.event ≡ false) × Chunk (y ∷ ys)

abbrev pub ChunkTurn : {S : Type 0} → Turn S Note → Type 0
ChunkTurn stops = Unit {0}
ChunkTurn (goes k es t) = Chunk es

pub done_chunk : (s : Store) (es : List Entry) → Chunk (done_notes s es)
done_chunk s [] = tt
done_chunk s (e ∷ es) = tt

one_done : (x : Note) → ends_turn x.event ≡ false → (s : Store) (es : List Entry) → Chunk (x ∷ done_notes s es)
one_done x h s [] = (h, tt)
one_done x h s (e ∷ es) = tt

two_done : (x y : Note) → ends_turn x.event ≡ false → ends_turn y.event ≡ false → (s : Store) (es : List Entry) → Chunk (x ∷ y ∷ done_notes s es)
two_done x y h k s [] = (h, (k, tt))
two_done x y h k s (e ∷ es) = (h, tt)

-- ---- with blocking imports

module _ (m : Module) (plan : Plan) where
  go_on_chunk : (k i : ℕ) (args : List Value) (p : Option ℕ) (said : Said) (s : Store) (l : Left) (w : Asker) → ChunkTurn (go_on k (call_note i args (store_at w) (stack_at m w) p) said s l w)
  go_on_chunk k i args p (S.Value v) s l (inside task c) = (refl, tt)
  go_on_chunk k i args p (S.Value v) s l (outermost old) = two_done (call_note i args old [] p) (note (answered (S.Value v)) s) refl refl s l.entries
  go_on_chunk k i args p S.Trap s l w = (refl, (refl, tt))

  tested_chunk : (k i : ℕ) (args : List Value) (w : Asker) (l : Left) (a : Answer) (o : Option End) → ChunkTurn (tested m k i args w l a o)
  tested_chunk k i args w l a (Some e) = (refl, tt)
  tested_chunk k i args w l a None = go_on_chunk k i args (pause_of a.ticks) a.said (poked (store_at w) a.pokes) l w

  asked_chunk : (k i : ℕ) (args : List Value) (w : Asker) (l : Left) (os : List Outcome) → ChunkTurn (asked m plan k i args w l os)
  asked_chunk k i args w l [] = tt
  asked_chunk k i args w l (refused e ∷ os) = (refl, tt)
  asked_chunk k i args w l (given a ∷ os) =
      tested_chunk k i args w (with_outcomes l os) a (fault_of (func_type_at m i).results (length (store_at w).memory) plan (in_start w) i a)

  back_chunk : (k : ℕ) (task : Task) (vs : List Value) (s : Store) (l : Left) → ChunkTurn (task_back k task vs s l)
  back_chunk k the_start vs s l = done_chunk s l.entries
  back_chunk k (an_entry e) vs s l = one_done (note (returned l.number (value_of_results vs)) s) refl s l.entries

  step_chunk : (task : Task) (l : Left) (o : Next) → ChunkTurn (by_step m plan task l o)
  step_chunk task l (steps k d) = tt
  step_chunk task l (asks k i args d) = asked_chunk k i args (inside task d) l l.outcomes
  step_chunk task l (returns k vs s) = back_chunk k task vs s l
  step_chunk task l (traps k t s) = tt
  step_chunk task l stuck = tt

  enters_chunk : (e : Entry) (s : Store) (l : Left) (f : Option Func) → ChunkTurn (enters e s l f)
  enters_chunk e s l None = tt
  enters_chunk e s l (Some f) = tt

  next_chunk : (s : Store) (l : Left) (es : List Entry) → ChunkTurn (enter_next m s l es)
  next_chunk s l [] = tt
  next_chunk s l (e ∷ es) = enters_chunk e s (record { number = l.number; entries = es; outcomes = l.outcomes }) (defined_at m e.func)

  start_chunk : (x : ℕ) (s : Store) (l : Left) (f : Option Func) → ChunkTurn (start_called m plan x s l f)
  start_chunk x s l (Some f) = tt
  start_chunk x s l None = by_import (nat_lt x (func_imports m))
    where
      by_import : (t : Bool) → ChunkTurn (if t then asked m plan 0 x [] (outermost s) l l.outcomes else stops)
      by_import true = asked_chunk 0 x [] (outermost s) l l.outcomes
      by_import false = tt

  blocking_chunk : (t : State) → ChunkTurn (blocking m plan t)
  blocking_chunk (between s l) = next_chunk s l l.entries
  blocking_chunk (begins x s l) = start_chunk x s l (defined_at m x)
  blocking_chunk (runs task c l) = step_chunk task l (step m c)
  blocking_chunk (halts s) = tt

  lifted_chunk : (o : Turn State Note) → ChunkTurn o → ChunkTurn (lifted o)
  lifted_chunk stops h = tt
  lifted_chunk (goes k es t) h = h

  module _ (sp : Space) (plain : Turn State Note) (is_plain : ChunkTurn plain) where
    pauses_chunk : (k i : ℕ) (args : List Value) (ticks : ℕ) (task : Task) (d : Configuration) (a : Answer) (l : Left)
        → ChunkTurn (strung_pauses sp k (call_note i args d.store (stack_at m (inside task d)) (Some ticks)) ticks task d a l)
    pauses_chunk k i args ticks task d a l = by_room (nat_lt sp.len (sp.room (stack_at m (inside task d))))
      where
        by_room : (t : Bool) → Chunk (call_note i args d.store (stack_at m (inside task d)) (Some ticks)
            ∷ (if t then trap_note (sp.fit (stack_at m (inside task d))) sp.len d.store ∷ [] else pause_note ticks (sp.room (stack_at m (inside task d))) d.store (stack_at m (inside task d)) ∷ []))
        by_room true = (refl, tt)
        by_room false = (refl, tt)

    strung_tested_chunk : (k i : ℕ) (args : List Value) (task : Task) (d : Configuration) (l : Left) (a : Answer) (o : Option End) (p : Option ℕ)
        → ChunkTurn (strung_tested m sp plain k i args task d l a o p)
    strung_tested_chunk k i args task d l a None (Some ticks) = pauses_chunk k i args ticks task d a l
    strung_tested_chunk k i args task d l a None None = lifted_chunk plain is_plain
    strung_tested_chunk k i args task d l a (Some e) p = lifted_chunk plain is_plain

    strung_asked_chunk : (k i : ℕ) (args : List Value) (task : Task) (d : Configuration) (l : Left) (os : List Outcome) → ChunkTurn (strung_asked m plan sp plain k i args task d l os)
    strung_asked_chunk k i args task d l (given a ∷ os) =
        strung_tested_chunk k i args task d (with_outcomes l os) a (fault_of (func_type_at m i).results (length d.store.memory) plan (is_start task) i a) (pause_of a.ticks)
    strung_asked_chunk k i args task d l (refused e ∷ os) = lifted_chunk plain is_plain
    strung_asked_chunk k i args task d l [] = lifted_chunk plain is_plain

    strung_next_chunk : (task : Task) (l : Left) (o : Next) → ChunkTurn (strung_next m plan sp plain task l o)
    strung_next_chunk task l (asks k i args d) = strung_asked_chunk k i args task d l l.outcomes
    strung_next_chunk task l (steps k d) = lifted_chunk plain is_plain
    strung_next_chunk task l (returns k vs s) = lifted_chunk plain is_plain
    strung_next_chunk task l (traps k t s) = lifted_chunk plain is_plain
    strung_next_chunk task l stuck = lifted_chunk plain is_plain

  pub strung_chunk : (sp : Space) (x : Strung) → ChunkTurn (strung m plan sp x)
  strung_chunk sp (on (runs task c l)) = strung_next_chunk sp (blocking m plan (runs task c l)) (blocking_chunk (runs task c l)) task l (step m c)
  strung_chunk sp (on (between s l)) = lifted_chunk (blocking m plan (between s l)) (blocking_chunk (between s l))
  strung_chunk sp (on (begins x s l)) = lifted_chunk (blocking m plan (begins x s l)) (blocking_chunk (begins x s l))
  strung_chunk sp (on (halts s)) = tt
  strung_chunk sp (waits task c a l) = tt

answer_chunk : (said : Said) (s : Store) → Chunk (answer_notes said s)
answer_chunk (S.Value v) s = tt
answer_chunk S.Trap s = (refl, tt)

pub strung_wakes_chunk : (s : Store) (x : Strung) → Chunk (strung_wakes s x).events
strung_wakes_chunk s (waits task c a l) = answer_chunk a.said (poked s a.pokes)
strung_wakes_chunk s (on (between old l)) = done_chunk s l.entries
strung_wakes_chunk s (on (begins x t l)) = tt
strung_wakes_chunk s (on (runs task c l)) = tt
strung_wakes_chunk s (on (halts t)) = tt

pub begun_chunk : (start : Option ℕ) (l : Left) (o : Opening) → Chunk (begun start l o).events
begun_chunk start l (fails_as e) = tt
begun_chunk None l (opens s) = done_chunk s l.entries
begun_chunk (Some x) l (opens s) = tt

-- ---- under the protocol

module _ (p : Module) (x : Exports) (plan : Plan) where
  given_chunk : (k i : ℕ) (args : List Value) (said : Said) (s : Store) (l : Left) (w : Asker) → ChunkTurn (held_given k (call_note i args (store_at w) (stack_at p w) None) said s l w)
  given_chunk k i args (S.Value v) s l (inside task c) = (refl, tt)
  given_chunk k i args (S.Value v) s l (outermost old) = two_done (call_note i args old [] None) (note (answered (S.Value v)) s) refl refl s l.entries
  given_chunk k i args S.Trap s l w = (refl, (refl, tt))

  held_pauses_chunk : (k : ℕ) (y : Note) (i : ℕ) (a : Answer) (l : Left) (w : Asker) → ChunkTurn (held_pauses x plan k y i a l w)
  held_pauses_chunk k y i a l (inside (an_entry e) c) = tt
  held_pauses_chunk k y i a l (inside the_start c) = tt
  held_pauses_chunk k y i a l (outermost s) = tt

  held_tested_chunk : (k i : ℕ) (args : List Value) (w : Asker) (l : Left) (a : Answer) (o : Option End) (t : Option ℕ) → ChunkTurn (held_tested p x plan k i args w l a o t)
  held_tested_chunk k i args w l a (Some e) t = (refl, tt)
  held_tested_chunk k i args w l a None None = given_chunk k i args a.said (poked (store_at w) a.pokes) l w
  held_tested_chunk k i args w l a None (Some ticks) = held_pauses_chunk k (call_note i args (store_at w) (stack_at p w) (Some ticks)) i a l w

  held_asked_chunk : (k i : ℕ) (args : List Value) (w : Asker) (l : Left) (os : List Outcome) → ChunkTurn (held_asked p x plan k i args w l os)
  held_asked_chunk k i args w l [] = tt
  held_asked_chunk k i args w l (refused e ∷ os) = (refl, tt)
  held_asked_chunk k i args w l (given a ∷ os) =
      held_tested_chunk k i args w (with_outcomes l os) a (fault_of (func_type_at p i).results (length (store_at w).memory) plan (in_start w) i a) (pause_of a.ticks)

  held_back_chunk : (k : ℕ) (task : Task) (vs : List Value) (s : Store) (l : Left) → ChunkTurn (held_back k task vs s l)
  held_back_chunk k the_start vs s l = done_chunk s l.entries
  held_back_chunk k (an_entry e) vs s l = one_done (note (returned l.number (value_of_results vs)) s) refl s l.entries

  either_chunk : (t : Bool) (a b : Turn Held Note) → ChunkTurn a → ChunkTurn b → ChunkTurn (if t then a else b)
  either_chunk true a b h k = h
  either_chunk false a b h k = k

  busy_chunk : (ph : Phase) (l : Left) (o : Next) → ChunkTurn (busy_step p x plan ph l o)
  busy_chunk ph l (steps k d) = tt
  busy_chunk (is_running task) l (asks k i args d) = held_asked_chunk k i args (inside task d) l l.outcomes
  busy_chunk (unwinds e i a) l (asks k j args d) = tt
  busy_chunk (rewinds e i a sp) l (asks k j args d) = either_chunk (nat_eq j i) _ _ tt tt
  busy_chunk (is_running task) l (returns k vs s) = held_back_chunk k task vs s l
  busy_chunk (unwinds e i a) l (returns k vs s) = tt
  busy_chunk (rewinds e i a sp) l (returns k vs s) = tt
  busy_chunk ph l (traps k t s) = tt
  busy_chunk ph l stuck = tt

  resumed_chunk : (k : ℕ) (e : Entry) (said : Said) (sp : Store) (c : Configuration) (l : Left) (s : Store) → ChunkTurn (held_resumed k e said sp c l s)
  resumed_chunk k e (S.Value v) sp c l s = tt
  resumed_chunk k e S.Trap sp c l s = (refl, tt)

  aside_back_chunk : (k : ℕ) (ph : Phase) (th : Then) (l : Left) (vs : List Value) (s : Store) → ChunkTurn (aside_back p x plan k ph th l vs s)
  aside_back_chunk k (unwinds e i a) (give_zero c) l vs s = tt
  aside_back_chunk k (unwinds e i a) test_unwound l vs s = either_chunk (is_state 1 vs) _ _ tt tt
  aside_back_chunk k (unwinds e i a) pause_there l vs s = tt
  aside_back_chunk k (unwinds e i a) call_again l vs s = tt
  aside_back_chunk k (unwinds e i a) (test_rewound c) l vs s = tt
  aside_back_chunk k (unwinds e i a) (give_answer c) l vs s = tt
  aside_back_chunk k (rewinds e i a sp) call_again l vs s = tt
  aside_back_chunk k (rewinds e i a sp) (test_rewound c) l vs s = either_chunk (is_state 2 vs) _ _ tt tt
  aside_back_chunk k (rewinds e i a sp) (give_answer c) l vs s = resumed_chunk k e a.said sp c l (poked s a.pokes)
  aside_back_chunk k (rewinds e i a sp) (give_zero c) l vs s = tt
  aside_back_chunk k (rewinds e i a sp) test_unwound l vs s = tt
  aside_back_chunk k (rewinds e i a sp) pause_there l vs s = tt
  aside_back_chunk k (is_running task) th l vs s = tt

  aside_chunk : (ph : Phase) (th : Then) (l : Left) (o : Next) → ChunkTurn (aside_step p x plan ph th l o)
  aside_chunk ph th l (steps k d) = tt
  aside_chunk ph th l (asks k i args d) = tt
  aside_chunk ph th l (returns k vs s) = aside_back_chunk k ph th l vs s
  aside_chunk ph th l (traps k t s) = tt
  aside_chunk ph th l stuck = tt

  busy_enters_chunk : (ph : Phase) (e : Entry) (s : Store) (l : Left) (f : Option Func) → ChunkTurn (busy_enters ph e s l f)
  busy_enters_chunk ph e s l None = tt
  busy_enters_chunk ph e s l (Some f) = tt

  held_next_chunk : (s : Store) (l : Left) (es : List Entry) → ChunkTurn (held_next p s l es)
  held_next_chunk s l [] = tt
  held_next_chunk s l (e ∷ es) = busy_enters_chunk (is_running (an_entry e)) e s (record { number = l.number; entries = es; outcomes = l.outcomes }) (defined_at p e.func)

  called_chunk : (ph : Phase) (s : Store) (f : ℕ) (args : List Value) (th : Then) (l : Left) (o : Option Func) → ChunkTurn (aside_called ph s f args th l o)
  called_chunk ph s f args th l None = tt
  called_chunk ph s f args th l (Some g) = tt

  held_start_chunk : (f : ℕ) (s : Store) (l : Left) (o : Option Func) → ChunkTurn (held_start p x plan f s l o)
  held_start_chunk f s l (Some g) = tt
  held_start_chunk f s l None = either_chunk (nat_lt f (func_imports p)) _ _ (held_asked_chunk 0 f [] (outermost s) l l.outcomes) tt

  pub protocol_chunk : (h : Held) → ChunkTurn (protocol p x plan h)
  protocol_chunk (free s l) = held_next_chunk s l l.entries
  protocol_chunk (starting f s l) = held_start_chunk f s l (defined_at p f)
  protocol_chunk (busy ph c l) = busy_chunk ph l (step p c)
  protocol_chunk (calling ph s f args th l) = called_chunk ph s f args th l (defined_at p f)
  protocol_chunk (aside ph c th l) = aside_chunk ph th l (step p c)
  protocol_chunk (entering ph e s l) = busy_enters_chunk ph e s l (defined_at p e.func)
  protocol_chunk (over s) = tt

pub held_wakes_chunk : (s : Store) (h : Held) → Chunk (held_wakes s h).events
held_wakes_chunk s (free old l) = done_chunk s l.entries
held_wakes_chunk s (starting f t l) = tt
held_wakes_chunk s (busy ph c l) = tt
held_wakes_chunk s (calling (is_running task) t f args th l) = tt
held_wakes_chunk s (calling (unwinds e i a) t f args th l) = tt
held_wakes_chunk s (calling (rewinds e i a sp) t f args th l) = tt
held_wakes_chunk s (aside ph c th l) = tt
held_wakes_chunk s (entering ph e t l) = tt
held_wakes_chunk s (over t) = tt

pub held_begun_chunk : (start : Option ℕ) (l : Left) (o : Opening) → Chunk (held_begun start l o).events
held_begun_chunk start l (fails_as e) = tt
held_begun_chunk None l (opens s) = done_chunk s l.entries
held_begun_chunk (Some f) l (opens s) = tt
