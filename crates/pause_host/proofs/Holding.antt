-- What a program holds it holds wherever it comes: no move of the protocol's machine loses it.
use Rattle.std.proofs.Common.{◌≡◌, ℕ, ◌+◌, ◌*◌, ◌^◌, ◌<◌, ◌≤◌, Bool, true, false, cond, List, [], ◌∷◌, ◌++◌, length, Option, Some, None, refl, sym, subst, arith}
use Rattle.std.specs.Prelude.{nat_lt, nat_eq, nat_le, ◌&&◌}
use Rattle.std.proofs.lemmas.Bool.{leb-true, le-leb, and_parts}
use Rattle.std.proofs.lemmas.List.Elements.{All-nil, All-cons, All-head, All-tail, All-weaker}
use Rattle.wa_types.specs.declared.values.Value.{Value}
use Rattle.wa_types.specs.Memory.{page_size}
use Rattle.wa_types.specs.Modules.{all_memories, defined_at, func_imports, func_type_at}
use Rattle.wa_types.specs.Syntax.{Func, Module}
use Rattle.wa_model.specs.declared.answers.Area.{Area}
use Rattle.wa_model.specs.declared.answers.Said.{Said}
use Rattle.wa_model.specs.declared.answers.Said.TheVariants as SV
use Rattle.wa_model.specs.declared.events.End.{End}
use Rattle.wa_model.specs.Outside.{Poke, Answer}
use Rattle.wa_model.specs.Machine.{Turn, stops, goes, Leads, stays, moves}
use Rattle.wa_model.specs.Store.{Store}
use Rattle.wa_model.specs.Configuration.{Configuration}
use Rattle.wa_model.specs.Step.{Next, steps, asks, returns, traps, stuck, step}
use Rattle.wa_model.specs.Plan.{Entry, Plan, Outcome, given, refused}
use Rattle.wa_model.specs.Instantiation.{Opening, fails_as, opens, opening, least_of}
use Rattle.wa_model.specs.Blocking.{Note, call_note, fault_of, pause_of, poked, poked_memory, Task, the_start, an_entry, Left, with_outcomes, Asker, inside, outermost, store_at, stack_at, in_start, next_entry}
use Rattle.wa_types.specs.Memory.{overwritten, bytes_of}
use Rattle.wa_model.specs.Protocol.{Exports, exports_of, Phase, is_running, unwinds, rewinds, Then, give_zero, test_unwound, pause_there, call_again, test_rewound, give_answer, Held, free, starting, busy, calling, aside, entering, over, put_word, with_words, protocol, broken, held_on, held_back, held_given, held_resumed, held_pauses, held_tested, held_asked, busy_step, is_state, aside_back, aside_step, busy_enters, held_next, aside_called, held_start, held_begun}
use Rattle.world_model.specs.World.{Program}
use Rattle.run_laws.specs.Ranges.{PokeInside}
use Rattle.run_laws.proofs.Host.{fault_pokes}
use Rattle.host_laws.specs.Stretch.{meeting, Stretch}
use Rattle.host_laws.specs.Places.{Place, Lands, goes_on, ends, spends}
use Rattle.pause_host.specs.Views.{free_place}
use Rattle.pause_host.specs.Holding.{HoldsArea, PokesInside, FewEntries, TaskHolds, PhaseHolds, HeldHolds, PlaceHolds, is_held, are_inside}
use Rattle.pause_host.proofs.MemoryGrows.{overwritten_longer, NextLong, step_long, opens_long}

-- ---- where the memory is no shorter

pub area_longer : (area : Area) (s s' : Store) → length s.memory ≤ length s'.memory → HoldsArea area s → HoldsArea area s'
area_longer area s s' le h =
    let inside : area.at + area.len ≤ length s.memory = h.inside in
    record { wide = h.wide; inside = omega arith }

pub pokes_longer : (low size : ℕ) (ps : List Poke) → low ≤ size → PokesInside low ps → PokesInside size ps
pokes_longer low size ps le h = All-weaker (PokeInside low) (PokeInside size) (λ (p : Poke) (k : p.at + length p.bytes ≤ low). omega arith) ps h

pub phase_longer : (low size : ℕ) (l : Left) (ph : Phase) → low ≤ size → PhaseHolds low l ph → PhaseHolds size l ph
phase_longer low size l (is_running task) le h = h
phase_longer low size l (unwinds e i a) le h = (h.0, pokes_longer low size a.pokes le h.1)
phase_longer low size l (rewinds e i a at_pause) le h = (h.0, pokes_longer low size a.pokes le h.1)

pub words_longer : (s : Store) (area : Area) → length s.memory ≤ length (with_words s area).memory
words_longer s area =
    let first : List ℕ = put_word s.memory area.at (area.at + 8) in
    let one : length s.memory ≤ length first = overwritten_longer s.memory area.at (bytes_of 4 (area.at + 8)) in
    let two : length first ≤ length (put_word first (area.at + 4) (area.at + area.len)) = overwritten_longer first (area.at + 4) (bytes_of 4 (area.at + area.len)) in
    omega arith

memory_longer : (bytes : List ℕ) (ps : List Poke) → length bytes ≤ length (poked_memory bytes ps)
memory_longer bytes [] = omega arith
memory_longer bytes (p ∷ ps) =
    let one : length bytes ≤ length (overwritten bytes p.at p.bytes) = overwritten_longer bytes p.at p.bytes in
    let rest : length (overwritten bytes p.at p.bytes) ≤ length (poked_memory (overwritten bytes p.at p.bytes) ps) = memory_longer (overwritten bytes p.at p.bytes) ps in
    omega arith

pub poked_longer : (s : Store) (ps : List Poke) → length s.memory ≤ length (poked s ps).memory
poked_longer s ps = memory_longer s.memory ps

-- ---- the tests

pub held_true : (area : Area) (s : Store) → HoldsArea area s → is_held area s ≡ true
held_true area s h = le-leb (area.at + area.len) (length s.memory) h.inside

pub true_held : (area : Area) (s s' : Store) → is_held area s ≡ true → HoldsArea area s' → HoldsArea area s
true_held area s s' e h = record { wide = h.wide; inside = leb-true (area.at + area.len) (length s.memory) e }

pub inside_true : (size : ℕ) (ps : List Poke) → PokesInside size ps → are_inside size ps ≡ true
inside_true size [] h = refl
inside_true size (p ∷ ps) h =
    both (nat_le (p.at + length p.bytes) size) (are_inside size ps) (le-leb (p.at + length p.bytes) size (All-head (PokeInside size) p ps h))
    (inside_true size ps (All-tail (PokeInside size) p ps h))
  where
    both : (a b : Bool) → a ≡ true → b ≡ true → (a && b) ≡ true
    both true true h k = refl
    both true false h k = cc
    both false b h k = cc

pub true_inside : (size : ℕ) (ps : List Poke) → are_inside size ps ≡ true → PokesInside size ps
true_inside size [] e = All-nil (PokeInside size)
true_inside size (p ∷ ps) e =
    let two = and_parts (nat_le (p.at + length p.bytes) size) (are_inside size ps) e in
    All-cons (PokeInside size) p ps (leb-true (p.at + length p.bytes) size two.0) (true_inside size ps two.1)

-- ---- moves

module _ (p : Module) (x : Exports) (plan : Plan) where
  abbrev TurnHolds : Turn Held Note → Type 0
  TurnHolds stops = Unit {0}
  TurnHolds (goes k es t) = HeldHolds plan.area t

  -- who waits for an answer
  abbrev AskerHolds : Left → Asker → Type 0
  AskerHolds l (inside task c) = TaskHolds l task
  AskerHolds l (outermost s) = FewEntries 0 l

  on_holds : (s : Store) (l : Left) (es : List Entry) → HoldsArea plan.area s → FewEntries 0 l → HeldHolds plan.area (held_on s l es)
  on_holds s l [] ok few = tt
  on_holds s l (e ∷ es) ok few = (ok, few)

  back_holds : (k : ℕ) (task : Task) (results : List Value) (s : Store) (l : Left) → HoldsArea plan.area s → TaskHolds l task → TurnHolds (held_back k task results s l)
  back_holds k the_start results s l ok few = on_holds s l l.entries ok few
  back_holds k (an_entry e) results s l ok few = on_holds s (next_entry l) l.entries ok (next_few few)
    where
      next_few : FewEntries 1 l → FewEntries 0 (next_entry l)
      next_few h = omega arith

  given_holds : (k : ℕ) (n : Note) (said : Said) (s : Store) (l : Left) (who : Asker) → HoldsArea plan.area s → AskerHolds l who → TurnHolds (held_given k n said s l who)
  given_holds k n (SV.Value v) s l (inside task c) ok few = (ok, few)
  given_holds k n (SV.Value v) s l (outermost old) ok few = on_holds s l l.entries ok few
  given_holds k n SV.Trap s l who ok few = tt

  resumed_holds : (k : ℕ) (e : Entry) (said : Said) (sp : Store) (c : Configuration) (l : Left) (s : Store) → HoldsArea plan.area s → FewEntries 1 l
      → TurnHolds (held_resumed k e said sp c l s)
  resumed_holds k e (SV.Value v) sp c l s ok few = (ok, few)
  resumed_holds k e SV.Trap sp c l s ok few = tt

  pauses_holds : (k : ℕ) (n : Note) (import : ℕ) (a : Answer) (l : Left) (who : Asker) → HoldsArea plan.area (store_at who) → AskerHolds l who
      → PokesInside (length (store_at who).memory) a.pokes → TurnHolds (held_pauses x plan k n import a l who)
  pauses_holds k n import a l (inside (an_entry e) c) ok few pokes =
      let le : length c.store.memory ≤ length (with_words c.store plan.area).memory = words_longer c.store plan.area in
      (area_longer plan.area c.store (with_words c.store plan.area) le ok, (few, pokes_longer (length c.store.memory) (length (with_words c.store plan.area).memory) a.pokes le pokes))
  pauses_holds k n import a l (inside the_start c) ok few pokes = tt
  pauses_holds k n import a l (outermost s) ok few pokes = tt

  tested_holds : (k import : ℕ) (args : List Value) (who : Asker) (l : Left) (a : Answer) (o : Option End) (pause : Option ℕ) → HoldsArea plan.area (store_at who) → AskerHolds l who
      → (o ≡ None → PokesInside (length (store_at who).memory) a.pokes) → TurnHolds (held_tested p x plan k import args who l a o pause)
  tested_holds k import args who l a (Some e) pause ok few on = tt
  tested_holds k import args who l a None None ok few on =
      given_holds k (call_note import args (store_at who) (stack_at p who) None) a.said (poked (store_at who) a.pokes) l who
      (area_longer plan.area (store_at who) (poked (store_at who) a.pokes) (poked_longer (store_at who) a.pokes) ok) few
  tested_holds k import args who l a None (Some ticks) ok few on =
      pauses_holds k (call_note import args (store_at who) (stack_at p who) (Some ticks)) import a l who ok few (on refl)

  with_few : (l : Left) (os : List Outcome) (who : Asker) → AskerHolds l who → AskerHolds (with_outcomes l os) who
  with_few l os (inside the_start c) few = few
  with_few l os (inside (an_entry e) c) few = few
  with_few l os (outermost s) few = few

  asked_holds : (k import : ℕ) (args : List Value) (who : Asker) (l : Left) (os : List Outcome) → HoldsArea plan.area (store_at who) → AskerHolds l who
      → TurnHolds (held_asked p x plan k import args who l os)
  asked_holds k import args who l [] ok few = tt
  asked_holds k import args who l (refused e ∷ os) ok few = tt
  asked_holds k import args who l (given a ∷ os) ok few =
      let results = (func_type_at p import).results in
      let size = length (store_at who).memory in
      tested_holds k import args who (with_outcomes l os) a (fault_of results size plan (in_start who) import a) (pause_of a.ticks) ok (with_few l os who few)
      (fault_pokes results size plan (in_start who) import a)

  -- from a memory of so many bytes
  module _ (low : ℕ) (wide : 8 ≤ plan.area.len) (room : plan.area.at + plan.area.len ≤ low) where
    at_area : (s : Store) → low ≤ length s.memory → HoldsArea plan.area s
    at_area s le = record { wide = wide; inside = omega arith }

    busy_holds : (ph : Phase) (l : Left) (o : Next) → PhaseHolds low l ph → NextLong low o → TurnHolds (busy_step p x plan ph l o)
    busy_holds ph l (steps k d) h le = (at_area d.store le, phase_longer low (length d.store.memory) l ph le h)
    busy_holds (is_running task) l (asks k import args d) h le = asked_holds k import args (inside task d) l l.outcomes (at_area d.store le) h
    busy_holds (unwinds e i a) l (asks k import args d) h le = tt
    busy_holds (rewinds e i a at_pause) l (asks k import args d) h le = by_import (nat_eq import i)
      where
        by_import : (b : Bool) → TurnHolds (cond b (goes k [] (calling (rewinds e i a at_pause) d.store x.get_state [] (test_rewound d) l)) (broken k 3 d.store))
        by_import true = (at_area d.store le, phase_longer low (length d.store.memory) l (rewinds e i a at_pause) le h)
        by_import false = tt
    busy_holds (is_running task) l (returns k results s) h le = back_holds k task results s l (at_area s le) h
    busy_holds (unwinds e i a) l (returns k results s) h le = (at_area s le, phase_longer low (length s.memory) l (unwinds e i a) le h)
    busy_holds (rewinds e i a at_pause) l (returns k results s) h le = tt
    busy_holds ph l (traps k trap s) h le = tt
    busy_holds ph l stuck h le = tt

    aside_back_holds : (k : ℕ) (ph : Phase) (th : Then) (l : Left) (results : List Value) (s : Store) → PhaseHolds low l ph → low ≤ length s.memory
        → TurnHolds (aside_back p x plan k ph th l results s)
    aside_back_holds k (unwinds e i a) (give_zero c) l results s h le = (at_area s le, phase_longer low (length s.memory) l (unwinds e i a) le h)
    aside_back_holds k (unwinds e i a) test_unwound l results s h le = by_state (is_state 1 results)
      where
        by_state : (b : Bool) → TurnHolds (cond b (goes k [] (calling (unwinds e i a) s x.stop_unwind [] pause_there l)) (broken k 2 s))
        by_state true = (at_area s le, phase_longer low (length s.memory) l (unwinds e i a) le h)
        by_state false = tt
    aside_back_holds k (unwinds e i a) pause_there l results s h le = (at_area s le, phase_longer low (length s.memory) l (rewinds e i a s) le h)
    aside_back_holds k (rewinds e i a at_pause) call_again l results s h le = (at_area s le, phase_longer low (length s.memory) l (rewinds e i a at_pause) le h)
    aside_back_holds k (rewinds e i a at_pause) (test_rewound c) l results s h le = by_state (is_state 2 results)
      where
        by_state : (b : Bool) → TurnHolds (cond b (goes k [] (calling (rewinds e i a at_pause) s x.stop_rewind [] (give_answer c) l)) (broken k 4 s))
        by_state true = (at_area s le, phase_longer low (length s.memory) l (rewinds e i a at_pause) le h)
        by_state false = tt
    aside_back_holds k (rewinds e i a at_pause) (give_answer c) l results s h le =
        resumed_holds k e a.said at_pause c l (poked s a.pokes) (area_longer plan.area s (poked s a.pokes) (poked_longer s a.pokes) (at_area s le)) h.0
    aside_back_holds k _ _ l results s h le = tt

    aside_holds : (ph : Phase) (th : Then) (l : Left) (o : Next) → PhaseHolds low l ph → NextLong low o → TurnHolds (aside_step p x plan ph th l o)
    aside_holds ph th l (steps k d) h le = (at_area d.store le, phase_longer low (length d.store.memory) l ph le h)
    aside_holds ph th l (asks k import args d) h le = tt
    aside_holds ph th l (returns k results s) h le = aside_back_holds k ph th l results s h le
    aside_holds ph th l (traps k trap s) h le = tt
    aside_holds ph th l stuck h le = tt

  enters_holds : (ph : Phase) (e : Entry) (s : Store) (l : Left) (o : Option Func) → HoldsArea plan.area s → PhaseHolds (length s.memory) l ph → TurnHolds (busy_enters ph e s l o)
  enters_holds ph e s l None ok h = tt
  enters_holds ph e s l (Some f) ok h = (ok, h)

  next_holds : (s : Store) (l : Left) (es : List Entry) → HoldsArea plan.area s → l.number + length es < 2 ^ 32 → TurnHolds (held_next p s l es)
  next_holds s l [] ok few = tt
  next_holds s l (e ∷ es) ok few =
      enters_holds (is_running (an_entry e)) e s (record { number = l.number; entries = es; outcomes = l.outcomes }) (defined_at p e.func) ok (omega arith)

  called_holds : (ph : Phase) (s : Store) (f : ℕ) (args : List Value) (th : Then) (l : Left) (o : Option Func) → HoldsArea plan.area s → PhaseHolds (length s.memory) l ph
      → TurnHolds (aside_called ph s f args th l o)
  called_holds ph s f args th l None ok h = tt
  called_holds ph s f args th l (Some g) ok h = (ok, h)

  start_holds : (f : ℕ) (s : Store) (l : Left) (o : Option Func) → HoldsArea plan.area s → FewEntries 0 l → TurnHolds (held_start p x plan f s l o)
  start_holds f s l (Some g) ok few = (ok, few)
  start_holds f s l None ok few = by_import (nat_lt f (func_imports p))
    where
      by_import : (b : Bool) → TurnHolds (cond b (held_asked p x plan 0 f [] (outermost s) l l.outcomes) stops)
      by_import true = asked_holds 0 f [] (outermost s) l l.outcomes ok few
      by_import false = tt

  -- one move of the machine
  turn_holds : (h : Held) → HeldHolds plan.area h → TurnHolds (protocol p x plan h)
  turn_holds (free s l) h = next_holds s l l.entries h.0 (omega (arith, h.1))
  turn_holds (starting f s l) h = start_holds f s l (defined_at p f) h.0 h.1
  turn_holds (busy ph c l) h = busy_holds (length c.store.memory) h.0.wide h.0.inside ph l (step p c) h.1 (step_long (length c.store.memory) p c (omega arith))
  turn_holds (calling ph s f args th l) h = called_holds ph s f args th l (defined_at p f) h.0 h.1
  turn_holds (aside ph c th l) h = aside_holds (length c.store.memory) h.0.wide h.0.inside ph th l (step p c) h.1 (step_long (length c.store.memory) p c (omega arith))
  turn_holds (entering ph e s l) h = enters_holds ph e s l (defined_at p e.func) h.0 h.1
  turn_holds (over s) h = tt

  leads_hold : (s t : Held) (n : ℕ) (es : List Note) → HeldHolds plan.area s → Leads (protocol p x plan) s n es t → HeldHolds plan.area t
  leads_hold s t n es h stays = h
  leads_hold s u n gs h (moves {t = t} {fs = fs} e rest em eg) = leads_hold t u _ fs (subst TurnHolds e (turn_holds s h)) rest

-- ---- whatever later outcomes are

phase_meets : (size : ℕ) (l : Left) (os : List Outcome) (ph : Phase) → PhaseHolds size l ph → PhaseHolds size (with_outcomes l os) ph
phase_meets size l os (is_running the_start) h = h
phase_meets size l os (is_running (an_entry e)) h = h
phase_meets size l os (unwinds e i a) h = h
phase_meets size l os (rewinds e i a at_pause) h = h

meets_phase : (size : ℕ) (l : Left) (os : List Outcome) (ph : Phase) → PhaseHolds size (with_outcomes l os) ph → PhaseHolds size l ph
meets_phase size l os (is_running the_start) h = h
meets_phase size l os (is_running (an_entry e)) h = h
meets_phase size l os (unwinds e i a) h = h
meets_phase size l os (rewinds e i a at_pause) h = h

holds_meeting : (area : Area) (os : List Outcome) (h : Held) → HeldHolds area h → HeldHolds area (meeting os h)
holds_meeting area os (free s l) k = k
holds_meeting area os (starting f s l) k = k
holds_meeting area os (busy ph c l) k = (k.0, phase_meets (length c.store.memory) l os ph k.1)
holds_meeting area os (calling ph s f args th l) k = (k.0, phase_meets (length s.memory) l os ph k.1)
holds_meeting area os (aside ph c th l) k = (k.0, phase_meets (length c.store.memory) l os ph k.1)
holds_meeting area os (entering ph e s l) k = (k.0, phase_meets (length s.memory) l os ph k.1)
holds_meeting area os (over s) k = k

meeting_holds : (area : Area) (os : List Outcome) (h : Held) → HeldHolds area (meeting os h) → HeldHolds area h
meeting_holds area os (free s l) k = k
meeting_holds area os (starting f s l) k = k
meeting_holds area os (busy ph c l) k = (k.0, meets_phase (length c.store.memory) l os ph k.1)
meeting_holds area os (calling ph s f args th l) k = (k.0, meets_phase (length s.memory) l os ph k.1)
meeting_holds area os (aside ph c th l) k = (k.0, meets_phase (length c.store.memory) l os ph k.1)
meeting_holds area os (entering ph e s l) k = (k.0, meets_phase (length s.memory) l os ph k.1)
meeting_holds area os (over s) k = k

-- along a stretch
pub holds_on : (p : Module) (plan : Plan) (h h' : Held) (os : List Outcome) (notes : List Note) (n : ℕ) → Stretch p plan h os notes n h' → HeldHolds plan.area h → HeldHolds plan.area h'
holds_on p plan h h' os notes n stretch k =
    meeting_holds plan.area [] h' (leads_hold p (exports_of p) plan (meeting (os ++ []) h) (meeting [] h') n notes (holds_meeting plan.area (os ++ []) h k) (stretch []))

-- and with a note that is told
pub holds_then : (w : Program) (ready : List Note) (h : Held) (os : List Outcome) (left : ℕ) (y : Note) (used : ℕ) (to : Place) → HeldHolds w.plan.area h
    → Lands w.source w.plan w.steps ready h os left y used to → PlaceHolds w to
holds_then w ready h os left y used to k (goes_on made tail h' stretch is_y more to_is) =
    subst (PlaceHolds w) (sym to_is) (holds_on w.source w.plan h h' os made used stretch k)
holds_then w ready h os left y used to k (ends how made s stretch is_y end_is to_is) = subst (PlaceHolds w) (sym to_is) tt
holds_then w ready h os left y used to k (spends h' stretch none spent is_y to_is) = subst (PlaceHolds w) (sym to_is) tt

-- ---- where a run begins

pub begun_holds : (p : Module) (plan : Plan) (l : Left) (globals : List Value) (start : Option ℕ) → 8 ≤ plan.area.len
    → plan.area.at + plan.area.len ≤ least_of (all_memories p) * page_size → FewEntries 0 l → HeldHolds plan.area (held_begun start l (opening p globals)).last
begun_holds p plan l globals start wide room few = by_opening (opening p globals) (λ s e. opens_long p globals s e)
  where
    by_start : (s : Store) (o : Option ℕ) → HoldsArea plan.area s → HeldHolds plan.area (held_begun o l (opens s)).last
    by_start s None ok = on (l.entries)
      where
        on : (es : List Entry) → HeldHolds plan.area (held_on s l es)
        on [] = tt
        on (e ∷ es) = (ok, few)
    by_start s (Some f) ok = (ok, few)

    by_opening : (o : Opening) → ((s : Store) → o ≡ opens s → least_of (all_memories p) * page_size ≤ length s.memory) → HeldHolds plan.area (held_begun start l o).last
    by_opening (fails_as how) k = tt
    by_opening (opens s) k =
        let long : least_of (all_memories p) * page_size ≤ length s.memory = k s refl in
        by_start s start (record { wide = wide; inside = omega arith })

-- ---- places

-- where an entry is to be called
pub free_holds : (w : Program) (s : Store) (l : Left) (y : Entry) (ys : List Entry) → l.entries ≡ y ∷ ys → PlaceHolds w (free_place l s) → HoldsArea w.plan.area s × FewEntries 0 l
free_holds w s l y ys e h = subst (λ es. HeldHolds w.plan.area (held_on s l es)) e h
