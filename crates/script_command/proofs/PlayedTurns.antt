-- The lines of so many events hold so many turns.
use Rattle.std.proofs.Common.{arith, ◌≡◌, ◌⊎◌, inl, inr, ◌<◌, ◌+◌, ℕ, zero, suc, List, [], ◌∷◌, length, map, Some, Bool, true, false, refl, sym, ap, ◌∙◌, subst, length-append}
use Rattle.std.specs.Prelude.{if◌then◌else◌, slice_get, slice_set}
use Rattle.std.specs.List.{AllZip}
use Rattle.std.proofs.lemmas.Bool.{cases_lt}
use Rattle.std.proofs.lemmas.List.{map-append}
use Rattle.wa_model.specs.declared.answers.Detach.{Detach}
use Rattle.wa_model.specs.Blocking.{Note}
use Rattle.wa_model.specs.Outside.{AnswerLine, Event, Line, answered, called, ended, paused, parked, returned, shown}
use Rattle.wa_model.specs.Plan.{Outcome}
use Rattle.wa_model.specs.Store.{Store}
use Rattle.world_model.specs.World.{Actor, CallsMeet, Device, Look, Plays, Program, StartsHeld, behind_turn, ends_turn, events_with_looks, line_at, look_events, looks_after, protocol_story, turn_of}
use Rattle.world_laws.specs.Originals.{new_calls}
use Rattle.world_laws.specs.Played.{Played}
use Rattle.world_laws.proofs.Counting.{Ends, calls_on}
use Rattle.world_laws.proofs.Meeting.{calls_take}
use Rattle.world_laws.proofs.StoryParts.{story_ends}
use Rattle.world_laws.proofs.Turns.{end_turn, turn_parts}
use Rattle.world_hosting.specs.Counts.{turns_at}
use Rattle.world_hosting.specs.Worlds.{turn_count}
use Rattle.world_hosting.proofs.TurnCounts.{turns_append}

-- ---- one turn

-- no note ends a turn
abbrev Unended : List Note → Type 0
Unended [] = Unit {0}
Unended (x ∷ xs) = (ends_turn x.event ≡ false) × Unended xs

module _ (due i : ℕ) (looks : List Look) where
  abbrev lines_of : List Event → List Line
  lines_of es = map (line_at due i) es

  abbrev turns_in : List Note → ℕ
  turns_in xs = turn_count (lines_of (events_with_looks looks xs))

  shown_none : (s : Store) (ls : List Look) → turn_count (lines_of (look_events s ls)) ≡ 0
  shown_none s [] = refl
  shown_none s (k ∷ ks) = ap (λ (n : ℕ). 0 + n) (shown_none s ks)

  looks_none : (x : Note) (e : Event) → turn_count (lines_of (looks_after looks x e)) ≡ 0
  looks_none x (called call) = refl
  looks_none x (answered value) = refl
  looks_none x (paused ticks used) = refl
  looks_none x (returned entry value) = refl
  looks_none x (ended how) = shown_none x.store looks
  looks_none x (parked used) = refl
  looks_none x (shown at bytes) = refl

  note_told : (x : Note) (xs : List Note) → turns_in (x ∷ xs) ≡ turns_at x.event + turns_in xs
  note_told x xs =
      let parts : turns_in (x ∷ xs) ≡ turn_count (lines_of (x.event ∷ looks_after looks x x.event)) + turns_in xs =
      ap turn_count (map-append (line_at due i) (x.event ∷ looks_after looks x x.event) (events_with_looks looks xs))
      ∙ turns_append (lines_of (x.event ∷ looks_after looks x x.event)) (lines_of (events_with_looks looks xs)) in
      let first : turn_count (lines_of (x.event ∷ looks_after looks x x.event)) ≡ turns_at x.event + 0 = ap (λ (n : ℕ). turns_at x.event + n) (looks_none x x.event) in
      omega (arith, parts, first)

  -- the notes of a turn end one, or none of all does
  turn_cases : (xs : List Note) → (turns_in (turn_of xs) ≡ 1) ⊎ Unended xs
  turn_cases [] = inr tt
  turn_cases (x ∷ xs) = by (ends_turn x.event) refl (turn_cases xs)
    where
      by : (b : Bool) → ends_turn x.event ≡ b → (turns_in (turn_of xs) ≡ 1) ⊎ Unended xs → (turns_in (if b then x ∷ [] else x ∷ turn_of xs) ≡ 1) ⊎ ((ends_turn x.event ≡ false) × Unended xs)
      by true e on =
          let n : turns_in (x ∷ []) ≡ turns_at x.event + 0 = note_told x [] in
          let t : turns_at x.event ≡ 1 = ap (λ (c : Bool). if c then 1 else 0) e in
          inl (omega (arith, n, t))
      by false e (inl one) =
          let n : turns_in (x ∷ turn_of xs) ≡ turns_at x.event + turns_in (turn_of xs) = note_told x (turn_of xs) in
          let t : turns_at x.event ≡ 0 = ap (λ (c : Bool). if c then 1 else 0) e in
          inl (omega (arith, n, t, one))
      by false e (inr none) = inr (e, none)

-- ---- the notes behind it

all_of_them : (xs : List Note) → Unended xs → turn_of xs ≡ xs
all_of_them [] h = refl
all_of_them (x ∷ xs) h = by (ends_turn x.event) h.0 (all_of_them xs h.1)
  where
    by : (b : Bool) → b ≡ false → turn_of xs ≡ xs → (if b then x ∷ [] else x ∷ turn_of xs) ≡ x ∷ xs
    by true e on = cc
    by false e on = ap (λ (ys : List Note). x ∷ ys) on

never_ends : (xs : List Note) → Unended xs → Ends xs → ⊥
never_ends [] h e = e
never_ends (x ∷ []) h e = let bad : true ≡ false = sym (end_turn x.event e) ∙ h.0 in absurd cc
never_ends (x ∷ y ∷ ys) h e = never_ends (y ∷ ys) h.1 e.1

ends_behind : (xs : List Note) → Ends xs → (behind_turn xs ≡ []) ⊎ Ends (behind_turn xs)
ends_behind [] h = absurd h
ends_behind (x ∷ []) h = inl (by (ends_turn x.event))
  where
    none : List Note
    none = []

    by : (b : Bool) → (if b then none else none) ≡ none
    by true = refl
    by false = refl
ends_behind (x ∷ y ∷ ys) h = by (ends_turn x.event) (ends_behind (y ∷ ys) h.1)
  where
    by : (b : Bool) → (behind_turn (y ∷ ys) ≡ []) ⊎ Ends (behind_turn (y ∷ ys)) → ((if b then y ∷ ys else behind_turn (y ∷ ys)) ≡ []) ⊎ Ends (if b then y ∷ ys else behind_turn (y ∷ ys))
    by true on = inr h.1
    by false on = on

-- ---- actors

-- the notes come to an end, or there are more calls than outcomes
abbrev Fine : List Outcome → List Note → Type 0
Fine os xs = (xs ≡ []) ⊎ (Ends xs ⊎ (length os < new_calls xs))

module _ (due i : ℕ) (w : Program) (xs : List Note) (os : List Outcome) (lines : List AnswerLine) (ds : List Device) (os' : List Outcome) (lines' : List AnswerLine) (ds' : List Device)
    (some : 0 < length xs) (calls : CallsMeet w (turn_of xs) os lines ds os' lines' ds') where
  long : length os ≡ new_calls (turn_of xs) + length os'
  long = let t = calls_take w (turn_of xs) os lines ds os' lines' ds' calls in omega (arith, ap length t.1, length-append t.0 os', t.2)

  all_calls : new_calls xs ≡ new_calls (turn_of xs) + new_calls (behind_turn xs)
  all_calls = ap new_calls (sym (turn_parts xs)) ∙ calls_on (turn_of xs) (behind_turn xs)

  -- a turn that is made is one, and what stands behind it is as before
  fine_turn : Fine os xs → (turns_in due i w.looks (turn_of xs) ≡ 1) × Fine os' (behind_turn xs)
  fine_turn (inl none) = let l = ap length none in let no_way : ⊥ = omega (arith, some, l) in absurd no_way
  fine_turn (inr (inl ends)) = (one (turn_cases due i w.looks xs), behind (ends_behind xs ends))
    where
      one : (turns_in due i w.looks (turn_of xs) ≡ 1) ⊎ Unended xs → turns_in due i w.looks (turn_of xs) ≡ 1
      one (inl is) = is
      one (inr none) = absurd (never_ends xs none ends)

      behind : (behind_turn xs ≡ []) ⊎ Ends (behind_turn xs) → Fine os' (behind_turn xs)
      behind (inl none) = inl none
      behind (inr rest) = inr (inl rest)
  fine_turn (inr (inr fewer)) = (one (turn_cases due i w.looks xs), inr (inr (let l = long in let a = all_calls in omega (arith, l, a, fewer))))
    where
      one : (turns_in due i w.looks (turn_of xs) ≡ 1) ⊎ Unended xs → turns_in due i w.looks (turn_of xs) ≡ 1
      one (inl is) = is
      one (inr none) =
          let l = long in
          let e = ap new_calls (all_of_them xs none) in
          let no_way : ⊥ = omega (arith, l, e, fewer) in absurd no_way

abbrev FineActor : Actor → Type 0
FineActor a = Fine a.outcomes a.notes

abbrev EachFine : List Actor → Type 0
EachFine [] = Unit {0}
EachFine (a ∷ acts) = FineActor a × EachFine acts

fine_at : (acts : List Actor) (i : ℕ) (a : Actor) → EachFine acts → slice_get acts i ≡ Some a → FineActor a
fine_at [] i a h e = absurd cc
fine_at (c ∷ acts) zero a h e = subst FineActor (same c a e) h.0
  where
    same : (x y : Actor) → Some x ≡ Some y → x ≡ y
    same x y e = cc
fine_at (c ∷ acts) (suc i) a h e = fine_at acts i a h.1 e

fine_set : (acts : List Actor) (i : ℕ) (b : Actor) → EachFine acts → FineActor b → EachFine (slice_set acts i b)
fine_set [] i b h r = tt
fine_set (c ∷ acts) zero b h r = (r, h.1)
fine_set (c ∷ acts) (suc i) b h r = (h.0, fine_set acts i b h.1 r)

starts_fine : (w : Program) (a : Actor) → StartsHeld w a → FineActor a
starts_fine w a held = subst (Fine a.outcomes) (sym held.story) (elim (cases_lt (length a.outcomes) (new_calls (protocol_story w a.outcomes))) [
  | inl lt ↦ inr (inr lt)
  | inr le ↦ by (story_ends w a.outcomes le)
])
  where
    by : (protocol_story w a.outcomes ≡ []) ⊎ Ends (protocol_story w a.outcomes) → Fine a.outcomes (protocol_story w a.outcomes)
    by (inl none) = inl none
    by (inr ends) = inr (inl ends)

all_start_fine : (ws : List Program) (acts : List Actor) → AllZip StartsHeld ws acts → EachFine acts
all_start_fine [] [] h = tt
all_start_fine [] (a ∷ acts) h = absurd h
all_start_fine (w ∷ ws) [] h = absurd h
all_start_fine (w ∷ ws) (a ∷ acts) h = (starts_fine w a h.0, all_start_fine ws acts h.1)

-- ---- events

module _ (programs : List Program) (detaches : List Detach) where
  plays_one : (number : ℕ) (actors : List Actor) (ds : List Device) (lines : List Line) (next : List Actor) (ds' : List Device) → EachFine actors
      → Plays programs detaches number actors ds lines next ds' → (turn_count lines ≡ 1) × EachFine next
  plays_one number actors ds lines next ds' fine play =
      let f =
      fine_turn play.a.due play.i play.w play.a.notes play.a.outcomes play.a.answers _ play.outcomes play.answers ds' play.next.unfinished play.calls
      (fine_at actors play.i play.a fine play.next.there) in
      (ap turn_count play.made ∙ f.0, subst EachFine (sym play.after) (fine_set actors play.i _ fine f.1))

  played_turns : (count number : ℕ) (actors : List Actor) (ds : List Device) (lines : List Line) (now : List Actor) (ds' : List Device) → EachFine actors
      → Played programs detaches number count actors ds lines now ds' → turn_count lines ≡ count
  played_turns zero number actors ds lines now ds' fine h = ap turn_count h.0
  played_turns (suc count) number actors ds lines now ds' fine h =
      let one = plays_one number actors ds h.0 h.2 h.3 fine h.4 in
      let rest = played_turns count (suc number) h.2 h.3 h.1 now ds' one.1 h.5 in
      let all : turn_count lines ≡ turn_count h.0 + turn_count h.1 = ap turn_count h.6 ∙ turns_append h.0 h.1 in
      omega (arith, one.0, rest, all)

-- A run up to an event has the turns of its events.
pub turns_played : (programs : List Program) (detaches : List Detach) (count : ℕ) (actors : List Actor) (ds : List Device) (lines : List Line) (now : List Actor) (ds' : List Device)
    → AllZip StartsHeld programs actors → Played programs detaches 1 count actors ds lines now ds' → turn_count lines ≡ count
turns_played programs detaches count actors ds lines now ds' starts h = played_turns programs detaches count 1 actors ds lines now ds' (all_start_fine programs actors starts) h
