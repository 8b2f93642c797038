-- The story of a program alone is a run of the protocol world.
use Rattle.std.proofs.Common.{◌≡◌, ◌<◌, ◌≤◌, ℕ, zero, suc, ◌+◌, ◌++◌, List, [], ◌∷◌, length, map, Bool, true, false, cond, Option, Some, None, ◌⊎◌, inr, refl, sym, ap, ◌∙◌, subst, append_assoc, append-nil, add-zero, arith}
use Rattle.std.specs.Prelude.{slice_get}
use Rattle.std.proofs.lemmas.List.{map-append}
use Rattle.std.proofs.lemmas.List.Elements.{All-nil, All-cons}
use Rattle.wa_model.specs.Outside.{Call, AnswerLine, Event, called, answered, paused, parked, returned, ended, shown}
use Rattle.wa_model.specs.Plan.{Outcome}
use Rattle.wa_model.specs.Blocking.{Note}
use Rattle.world_model.specs.World.{Program, Device, Actor, ends_turn, turn_of, behind_turn, call_in, NoteMeets, CallsMeet, ticks_in, put_off, line_at, looks_after, events_with_looks, turn_lines, HasNotes, IsNext, Plays, Events, no_event, an_event, answers_from, due_from}
use Rattle.host_laws.specs.Stories.{lines_from}
use Rattle.host_laws.specs.Laws.{StoryIsWorld}

-- ---- turns

-- the calls of a turn, and those behind it
record Split (w : Program) (notes : List Note) (os : List Outcome) (lines : List AnswerLine) (ds : List Device) (os' : List Outcome) (lines' : List AnswerLine) (ds' : List Device) : Type 0 where
  outcomes : List Outcome
  answers : List AnswerLine
  devices : List Device
  first : CallsMeet w (turn_of notes) os lines ds outcomes answers devices
  rest : CallsMeet w (behind_turn notes) outcomes answers devices os' lines' ds'

no_ticks : (e : Event) → ends_turn e ≡ false → ticks_in e ≡ 0
no_ticks (called c) h = refl
no_ticks (answered v) h = refl
no_ticks (paused ticks used) h = cc
no_ticks (returned entry v) h = refl
no_ticks (ended how) h = cc
no_ticks (parked used) h = refl
no_ticks (shown at bytes) h = refl

module _ (w : Program) where
  split : (notes : List Note) (os : List Outcome) (lines : List AnswerLine) (ds : List Device) (os' : List Outcome) (lines' : List AnswerLine) (ds' : List Device)
      → CallsMeet w notes os lines ds os' lines' ds' → Split w notes os lines ds os' lines' ds'
  split [] os lines ds os' lines' ds' h = record { outcomes = os; answers = lines; devices = ds; first = (refl, refl, refl); rest = h }
  split (x ∷ xs) os lines ds os' lines' ds' h = at (ends_turn x.event) refl (λ o l d g. split xs o l d os' lines' ds' g)
    where
      at_once : (c : Option Call) → NoteMeets w c os lines ds (λ o l d. CallsMeet w xs o l d os' lines' ds')
          → (o1 : List Outcome) × (l1 : List AnswerLine) × (d1 : List Device) × NoteMeets w c os lines ds (λ o l d. CallsMeet w [] o l d o1 l1 d1) × CallsMeet w xs o1 l1 d1 os' lines' ds'
      at_once None g = (os, lines, ds, (refl, refl, refl), g)
      at_once (Some c) g = (g.1, g.2, g.3, (g.0, g.1, g.2, g.3, g.4, g.5, (refl, refl, refl)), g.6)

      later : (c : Option Call) → ((o : List Outcome) (l : List AnswerLine) (d : List Device) → CallsMeet w xs o l d os' lines' ds' → Split w xs o l d os' lines' ds')
          → NoteMeets w c os lines ds (λ o l d. CallsMeet w xs o l d os' lines' ds')
          → (o1 : List Outcome) × (l1 : List AnswerLine) × (d1 : List Device) × NoteMeets w c os lines ds (λ o l d. CallsMeet w (turn_of xs) o l d o1 l1 d1)
          × CallsMeet w (behind_turn xs) o1 l1 d1 os' lines' ds'
      later None ih g = let s : Split w xs os lines ds os' lines' ds' = ih os lines ds g in (s.outcomes, s.answers, s.devices, s.first, s.rest)
      later (Some c) ih g = let s : Split w xs g.1 g.2 g.3 os' lines' ds' = ih g.1 g.2 g.3 g.6 in (s.outcomes, s.answers, s.devices, (g.0, g.1, g.2, g.3, g.4, g.5, s.first), s.rest)

      at : (b : Bool) → ends_turn x.event ≡ b → ((o : List Outcome) (l : List AnswerLine) (d : List Device) → CallsMeet w xs o l d os' lines' ds' → Split w xs o l d os' lines' ds')
          → Split w (x ∷ xs) os lines ds os' lines' ds'
      at true e ih =
          let p = at_once (call_in x.event) h in
          record {
            outcomes = p.0;
            answers = p.1;
            devices = p.2;
            first = subst (λ b. CallsMeet w (cond b (x ∷ []) (x ∷ turn_of xs)) os lines ds p.0 p.1 p.2) (sym e) p.3;
            rest = subst (λ b. CallsMeet w (cond b xs (behind_turn xs)) p.0 p.1 p.2 os' lines' ds') (sym e) p.4;
          }
      at false e ih =
          let p = later (call_in x.event) ih h in
          record {
            outcomes = p.0;
            answers = p.1;
            devices = p.2;
            first = subst (λ b. CallsMeet w (cond b (x ∷ []) (x ∷ turn_of xs)) os lines ds p.0 p.1 p.2) (sym e) p.3;
            rest = subst (λ b. CallsMeet w (cond b xs (behind_turn xs)) p.0 p.1 p.2 os' lines' ds') (sym e) p.4;
          }

  -- the lines of a turn come first
  lines_split : (notes : List Note) (due : ℕ)
      → lines_from w due notes ≡ map (line_at due 0) (events_with_looks w.looks (turn_of notes)) ++ lines_from w (due + put_off (turn_of notes)) (behind_turn notes)
  lines_split [] due = refl
  lines_split (x ∷ xs) due = at (ends_turn x.event) refl (lines_split xs due)
    where
      here : List Event
      here = x.event ∷ looks_after w.looks x x.event

      at : (b : Bool) → ends_turn x.event ≡ b → lines_from w due xs ≡ map (line_at due 0) (events_with_looks w.looks (turn_of xs)) ++ lines_from w (due + put_off (turn_of xs)) (behind_turn xs)
          → lines_from w due (x ∷ xs) ≡ map (line_at due 0) (events_with_looks w.looks (turn_of (x ∷ xs))) ++ lines_from w (due + put_off (turn_of (x ∷ xs))) (behind_turn (x ∷ xs))
      at true e ih =
          rw e
          (ap (λ es. map (line_at due 0) es ++ lines_from w (due + ticks_in x.event) xs) (sym (append-nil here))
          ∙ ap (λ n. map (line_at due 0) (here ++ []) ++ lines_from w (due + n) xs) (sym (add-zero (ticks_in x.event))))
      at false e ih =
          rw e
          (ap (λ n. map (line_at due 0) here ++ lines_from w n xs) (ap (λ n. due + n) (no_ticks x.event e) ∙ add-zero due)
          ∙ ap (λ ls. map (line_at due 0) here ++ ls) ih
          ∙ sym (append_assoc (map (line_at due 0) here) (map (line_at due 0) (events_with_looks w.looks (turn_of xs))) (lines_from w (due + put_off (turn_of xs)) (behind_turn xs)))
          ∙ ap (λ ls. ls ++ lines_from w (due + put_off (turn_of xs)) (behind_turn xs)) (sym (map-append (line_at due 0) here (events_with_looks w.looks (turn_of xs))))
          ∙ ap (λ n. map (line_at due 0) (here ++ events_with_looks w.looks (turn_of xs)) ++ lines_from w n (behind_turn xs))
          (put_off_is (ticks_in x.event) (put_off (turn_of xs)) (no_ticks x.event e)))
        where
          put_off_is : (a b : ℕ) → a ≡ 0 → due + b ≡ due + (a + b)
          put_off_is a b z = omega arith

  shorter : (xs : List Note) → length (behind_turn xs) ≤ length xs
  shorter [] = omega arith
  shorter (x ∷ xs) = at (ends_turn x.event) (shorter xs)
    where
      at : (b : Bool) → length (behind_turn xs) ≤ length xs → length (cond b xs (behind_turn xs)) ≤ length (x ∷ xs)
      at true h = omega arith
      at false h = omega arith

  behind_shorter : (x : Note) (xs : List Note) (fuel : ℕ) → length (x ∷ xs) ≤ suc fuel → length (behind_turn (x ∷ xs)) ≤ fuel
  behind_shorter x xs fuel h = at (ends_turn x.event) (shorter xs)
    where
      at : (b : Bool) → length (behind_turn xs) ≤ length xs → length (cond b xs (behind_turn xs)) ≤ fuel
      at true k = omega arith
      at false k = omega arith

  only_next : (a : Actor) → HasNotes a → IsNext (a ∷ []) 0 a
  only_next a h = record { there = refl; unfinished = h; least = least }
    where
      least : (j : ℕ) (b : Actor) → slice_get (a ∷ []) j ≡ Some b → HasNotes b → (a.due < b.due) ⊎ ((a.due ≡ b.due) × (0 ≤ j))
      least zero b e k = let same : a ≡ b = cc in inr (ap (λ (y : Actor). y.due) same, omega arith)
      least (suc j) b e k = cc

  record Played (number due : ℕ) (notes : List Note) (os : List Outcome) (lines : List AnswerLine) (ds ds' : List Device) : Type 0 where
    last : Actor
    over : last.notes ≡ []
    events : Events (w ∷ []) [] number (record { due = due; notes = notes; outcomes = os; answers = lines } ∷ []) ds (lines_from w due notes) (last ∷ []) ds'

  played : (fuel number due : ℕ) (notes : List Note) (os : List Outcome) (lines lines' : List AnswerLine) (ds ds' : List Device) → length notes ≤ fuel
      → CallsMeet w notes os lines ds [] lines' ds' → Played number due notes os lines ds ds'
  played fuel number due [] os lines lines' ds ds' le h =
      record {
        last = record { due = due; notes = []; outcomes = os; answers = lines };
        over = refl;
        events =
            subst (λ d. Events (w ∷ []) [] number (record { due = due; notes = []; outcomes = os; answers = lines } ∷ []) ds []
            (record { due = due; notes = []; outcomes = os; answers = lines } ∷ []) d) (sym h.2) no_event;
      }
  played zero number due (x ∷ xs) os lines lines' ds ds' le h = let z : ⊥ = omega arith in absurd z
  played (suc fuel) number due (x ∷ xs) os lines lines' ds ds' le h =
      let notes : List Note = x ∷ xs in
      let a : Actor = record { due = due; notes = notes; outcomes = os; answers = lines } in
      let s : Split w notes os lines ds [] lines' ds' = split notes os lines ds [] lines' ds' h in
      let more : Played (suc number) (due + put_off (turn_of notes)) (behind_turn notes) s.outcomes s.answers s.devices ds' =
      played fuel (suc number) (due + put_off (turn_of notes)) (behind_turn notes) s.outcomes s.answers lines' s.devices ds' (behind_shorter x xs fuel le) s.rest in
      let plays : Plays (w ∷ []) [] number (a ∷ []) ds (turn_lines 0 w a) (record {
        due = due
            + put_off (turn_of notes);
        notes = behind_turn notes;
        outcomes = s.outcomes;
        answers = s.answers;
      } ∷ []) s.devices =
      record {
        i = 0;
        a = a;
        w = w;
        next = only_next a (omega arith);
        program = refl;
        outcomes = s.outcomes;
        answers = s.answers;
        calls = s.first;
        made = refl;
        after = refl;
      } in
      record { last = more.last; over = more.over; events = an_event plays more.events (lines_split notes due) }

pub story_is_world : StoryIsWorld
story_is_world w notes story =
    let a : Actor = record { due = due_from w.origin; notes = notes; outcomes = story.outcomes; answers = answers_from w.answers w.origin } in
    let p : Played w 1 (due_from w.origin) notes story.outcomes (answers_from w.answers w.origin) [] []
    = played w (length notes) 1 (due_from w.origin) notes story.outcomes (answers_from w.answers w.origin) story.lines [] [] (omega arith) story.meets in
    record {
      actors = a ∷ [];
      last = p.last ∷ [];
      starts = (record { starts = record { due = refl; answers = refl }; story = story.story }, tt);
      events = p.events;
      over = All-cons (λ (y : Actor). y.notes ≡ []) p.last [] p.over (All-nil (λ (y : Actor). y.notes ≡ []));
    }
