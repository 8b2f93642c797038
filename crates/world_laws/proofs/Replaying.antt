-- A world that has been played up to an event, with other notes and outcomes to come.
use Rattle.std.proofs.Common.{arith, ◌≡◌, ◌+◌, ◌<◌, ℕ, zero, suc, List, [], ◌∷◌, ◌++◌, length, map, Option, Some, None, Bool, true, false, refl, sym, ap, ◌∙◌, subst, append_assoc, length-append}
use Rattle.std.specs.Prelude.{if◌then◌else◌, slice_get, slice_set}
use Rattle.std.specs.List.{AllZip}
use Rattle.wa_model.specs.declared.answers.Detach.{Detach}
use Rattle.wa_model.specs.Outside.{Call, AnswerLine, Line}
use Rattle.wa_model.specs.Plan.{Outcome}
use Rattle.wa_model.specs.Blocking.{Note}
use Rattle.world_model.specs.World.{Device, detached, Program, ends_turn, turn_of, behind_turn, put_off, call_in, NoteMeets, CallsMeet, line_at, events_with_looks, Actor, HasNotes, IsNext, Plays}
use Rattle.world_laws.specs.Originals.{one_if, new_calls}
use Rattle.world_laws.specs.Played.{Played}
use Rattle.world_laws.proofs.Counting.{calls_on}
use Rattle.world_laws.proofs.Turns.{turn_again, turn_parts}
use Rattle.world_laws.proofs.Nexts.{next_beside}
use Rattle.world_laws.proofs.Places.{put_back, set_here}
use Rattle.std.proofs.lemmas.Option.{same_Some}

-- ---- what has been met and made

-- Since an actor stood there it has met and made these.
pub record Since (a now : Actor) : Type 0 where
  pub used : List Outcome
  pub made : List Note
  pub outcomes : a.outcomes ≡ used ++ now.outcomes
  pub notes : a.notes ≡ made ++ now.notes
  pub count : new_calls made ≡ length used

-- Notes and outcomes to come are others; there are some in the one where there are in the other.
pub record Swapped (a b : Actor) : Type 0 where
  pub due : b.due ≡ a.due
  pub answers : b.answers ≡ a.answers
  pub on : HasNotes a → HasNotes b
  pub back : HasNotes b → HasNotes a

-- Two actors that have met and made the same since.
pub record Twice (a now b new : Actor) : Type 0 where
  pub swapped : Swapped a b
  pub since : Since a now
  pub outcomes : b.outcomes ≡ since.used ++ new.outcomes
  pub notes : b.notes ≡ since.made ++ new.notes

abbrev pub Quads : List Actor → List Actor → List Actor → List Actor → Type 0
Quads [] [] [] [] = Unit {0}
Quads (a ∷ p) (n ∷ now) (b ∷ q) (t ∷ new) = Twice a n b t × Quads p now q new
Quads _ _ _ _ = ⊥

-- ---- calls

-- calls take outcomes, whatever stands behind these
pub calls_swap : (w : Program) (xs : List Note) (os : List Outcome) (lines : List AnswerLine) (ds : List Device) (os' : List Outcome) (lines' : List AnswerLine) (ds' : List Device)
    → CallsMeet w xs os lines ds os' lines' ds'
    → (used : List Outcome) × (os ≡ used ++ os') × (length used ≡ new_calls xs) × ((t : List Outcome) → CallsMeet w xs (used ++ t) lines ds t lines' ds')
calls_swap w [] os lines ds os' lines' ds' h = ([], sym h.0, refl, λ t. (refl, h.1, h.2))
calls_swap w (x ∷ xs) os lines ds os' lines' ds' h = by_call (λ os lines ds g. calls_swap w xs os lines ds os' lines' ds' g) (call_in x.event) h
  where
    by_call : ((os : List Outcome) (lines : List AnswerLine) (ds : List Device) → CallsMeet w xs os lines ds os' lines' ds'
        → (used : List Outcome) × (os ≡ used ++ os') × (length used ≡ new_calls xs) × ((t : List Outcome) → CallsMeet w xs (used ++ t) lines ds t lines' ds'))
        → (c : Option Call) → NoteMeets w c os lines ds (λ o l d. CallsMeet w xs o l d os' lines' ds')
        → (used : List Outcome) × (os ≡ used ++ os') × (length used ≡ one_if c + new_calls xs) ×
        ((t : List Outcome) → NoteMeets w c (used ++ t) lines ds (λ o l d. CallsMeet w xs o l d t lines' ds'))
    by_call on None g = let r = on os lines ds g in (r.0, r.1, omega (arith, r.2), r.3)
    by_call on (Some c) g =
        let r = on g.1 g.2 g.3 g.6 in
        (g.0 ∷ r.0, g.4 ∙ ap (λ (xs : List Outcome). g.0 ∷ xs) r.1, omega (arith, r.2), λ t. (g.0, r.0 ++ t, g.2, g.3, refl, g.5, r.3 t))

-- those of the first notes, and of those behind
calls_split : (w : Program) (xs ys : List Note) (os : List Outcome) (lines : List AnswerLine) (ds : List Device) (os' : List Outcome) (lines' : List AnswerLine) (ds' : List Device)
    → CallsMeet w (xs ++ ys) os lines ds os' lines' ds'
    → (us : List Outcome) × (ls : List AnswerLine) × (es : List Device) × CallsMeet w xs os lines ds us ls es × CallsMeet w ys us ls es os' lines' ds'
calls_split w [] ys os lines ds os' lines' ds' h = (os, lines, ds, (refl, refl, refl), h)
calls_split w (x ∷ xs) ys os lines ds os' lines' ds' h = by (call_in x.event) h (λ o l d g. calls_split w xs ys o l d os' lines' ds' g) where
  by : (c : Option Call) → NoteMeets w c os lines ds (λ o l d. CallsMeet w (xs ++ ys) o l d os' lines' ds')
      → ((o : List Outcome) (l : List AnswerLine) (d : List Device) → CallsMeet w (xs ++ ys) o l d os' lines' ds'
      → (us : List Outcome) × (ls : List AnswerLine) × (es : List Device) × CallsMeet w xs o l d us ls es × CallsMeet w ys us ls es os' lines' ds')
      → (us : List Outcome) × (ls : List AnswerLine) × (es : List Device) × NoteMeets w c os lines ds (λ o l d. CallsMeet w xs o l d us ls es) × CallsMeet w ys us ls es os' lines' ds'
  by None m on = on os lines ds m
  by (Some call) m on = let r = on m.1 m.2 m.3 m.6 in (r.0, r.1, r.2, (m.0, m.1, m.2, m.3, m.4, m.5, r.3), r.4)

-- What the calls of notes take of outcomes, whatever stands behind these.
pub record Front (w : Program) (xs : List Note) (os : List Outcome) (lines : List AnswerLine) (ds : List Device) : Type 0 where
  pub first : List Outcome
  pub more : List Outcome
  pub answers : List AnswerLine
  pub devices : List Device
  pub all : os ≡ first ++ more
  pub count : length first ≡ new_calls xs
  pub calls : (t : List Outcome) → CallsMeet w xs (first ++ t) lines ds t answers devices

-- the calls of the first notes
pub calls_front : (w : Program) (xs ys : List Note) (os : List Outcome) (lines : List AnswerLine) (ds : List Device) (os' : List Outcome) (lines' : List AnswerLine) (ds' : List Device)
    → CallsMeet w (xs ++ ys) os lines ds os' lines' ds' → Front w xs os lines ds
calls_front w xs ys os lines ds os' lines' ds' h =
    let parts = calls_split w xs ys os lines ds os' lines' ds' h in
    let r = calls_swap w xs os lines ds parts.0 parts.1 parts.2 parts.3 in
    record { first = r.0; more = parts.0; answers = parts.1; devices = parts.2; all = r.1; count = r.2; calls = r.3 }

-- ---- turns

none_by : (xs : List Note) → (0 < length xs → ⊥) → xs ≡ []
none_by [] h = refl
none_by (x ∷ xs) h = absurd (h (omega arith))

none_swapped : (a b : Actor) → Swapped a b → a.notes ≡ [] → b.notes ≡ []
none_swapped a b s e = none_by b.notes (λ has. let g = s.back has in let z : length a.notes ≡ 0 = ap length e in omega arith)

some_turn : (xs : List Note) → 0 < length xs → 0 < length (turn_of xs)
some_turn [] h = h
some_turn (x ∷ xs) h = by_end (ends_turn x.event)
  where
    by_end : (b : Bool) → 0 < length (if b then x ∷ [] else x ∷ turn_of xs)
    by_end true = omega arith
    by_end false = omega arith

-- ---- lists of actors

quad_at : (p now q new : List Actor) → Quads p now q new → (i : ℕ) (a : Actor) → slice_get p i ≡ Some a
    → (n : Actor) × (b : Actor) × (t : Actor) × (slice_get now i ≡ Some n) × (slice_get q i ≡ Some b) × (slice_get new i ≡ Some t) × Twice a n b t
quad_at [] [] [] [] h i a e = cc
quad_at (c ∷ p) (n ∷ now) (b ∷ q) (t ∷ new) h zero a e = (n, b, t, refl, refl, refl, subst (λ (z : Actor). Twice z n b t) (same_Some c a e) h.0)
quad_at (c ∷ p) (n ∷ now) (b ∷ q) (t ∷ new) h (suc i) a e = quad_at p now q new h.1 i a e
quad_at _ _ _ _ h i a e = absurd h

quad_back : (p now q new : List Actor) → Quads p now q new → (i : ℕ) (b : Actor) → slice_get q i ≡ Some b → (a : Actor) × (slice_get p i ≡ Some a) × Swapped a b
quad_back [] [] [] [] h i b e = cc
quad_back (a ∷ p) (n ∷ now) (c ∷ q) (t ∷ new) h zero b e = let w = h.0 in (a, refl, subst (Swapped a) (same_Some c b e) w.swapped)
quad_back (a ∷ p) (n ∷ now) (c ∷ q) (t ∷ new) h (suc i) b e = quad_back p now q new h.1 i b e
quad_back _ _ _ _ h i b e = absurd h

pub quad_of : (p now q new : List Actor) → Quads p now q new → (i : ℕ) (b : Actor) → slice_get q i ≡ Some b
    → (a : Actor) × (n : Actor) × (t : Actor) × (slice_get p i ≡ Some a) × (slice_get now i ≡ Some n) × Twice a n b t
quad_of [] [] [] [] h i b e = cc
quad_of (a ∷ p) (n ∷ now) (c ∷ q) (t ∷ new) h zero b e = (a, n, t, refl, refl, subst (λ (z : Actor). Twice a n z t) (same_Some c b e) h.0)
quad_of (a ∷ p) (n ∷ now) (c ∷ q) (t ∷ new) h (suc i) b e = quad_of p now q new h.1 i b e
quad_of _ _ _ _ h i b e = absurd h

-- the lists before one actor moved
quad_before : (p now q new : List Actor) (i : ℕ) (a a' n b b' t : Actor) → slice_get p i ≡ Some a → Quads (slice_set p i a') now q new → slice_get now i ≡ Some n → slice_get q i ≡ Some b'
    → slice_get new i ≡ Some t
    → Twice a n b t → Quads p now (slice_set q i b) new
quad_before [] now q new i a a' n b b' t ep h en eq et w = cc
quad_before (c ∷ p) (m ∷ now) (d ∷ q) (u ∷ new) zero a a' n b b' t ep h en eq et w = (
  subst (λ (z : Actor). Twice z m b u) (sym (same_Some c a ep))
      (subst (λ (z : Actor). Twice a z b u) (sym (same_Some m n en)) (subst (λ (z : Actor). Twice a n b z) (sym (same_Some u t et)) w)),
  h.1,
)
quad_before (c ∷ p) (m ∷ now) (d ∷ q) (u ∷ new) (suc i) a a' n b b' t ep h en eq et w = (h.0, quad_before p now q new i a a' n b b' t ep h.1 en eq et w)
quad_before (c ∷ p) [] q new zero a a' n b b' t ep h en eq et w = absurd h
quad_before (c ∷ p) [] q new (suc i) a a' n b b' t ep h en eq et w = absurd h
quad_before (c ∷ p) (m ∷ now) [] new zero a a' n b b' t ep h en eq et w = absurd h
quad_before (c ∷ p) (m ∷ now) [] new (suc i) a a' n b b' t ep h en eq et w = absurd h
quad_before (c ∷ p) (m ∷ now) (d ∷ q) [] zero a a' n b b' t ep h en eq et w = absurd h
quad_before (c ∷ p) (m ∷ now) (d ∷ q) [] (suc i) a a' n b b' t ep h en eq et w = absurd h

next_swapped : (p now q new : List Actor) (i : ℕ) (a b : Actor) → Quads p now q new → slice_get q i ≡ Some b → Swapped a b → IsNext p i a → IsNext q i b
next_swapped p now q new i a b h there s n =
    next_beside p q i a b there s.due (s.on n.unfinished) (λ j c e has. let r = quad_back p now q new h j c e in (r.0, r.1, sym r.2.due, r.2.back has)) n

-- ---- events

quads_start : (now new : List Actor) → AllZip Swapped now new → Quads now now new new
quads_start [] [] h = tt
quads_start [] (t ∷ new) h = absurd h
quads_start (n ∷ now) [] h = absurd h
quads_start (n ∷ now) (t ∷ new) h =
    (record { swapped = h.0; since = record { used = []; made = []; outcomes = refl; notes = refl; count = refl }; outcomes = refl; notes = refl }, quads_start now new h.1)

module _ (ws : List Program) (detaches : List Detach) where
  abbrev Again : ℕ → ℕ → List Actor → List Device → List Line → List Actor → List Device → List Actor → Type 0
  Again number count p ds lines now ds' new = (q : List Actor) × Played ws detaches number count q ds lines new ds' × Quads p now q new

  plays_again : (number count : ℕ) (p mid now new : List Actor) (ds es ds' : List Device) (first more : List Line) → Plays ws detaches number p ds first mid es
      → Again (suc number) count mid es more now ds' new
      → Again number (suc count) p ds (first ++ more) now ds' new
  plays_again number count p mid now new ds es ds' first more h on =
      let a : Actor = h.a in
      let a' : Actor = record { due = a.due + put_off (turn_of a.notes); notes = behind_turn a.notes; outcomes = h.outcomes; answers = h.answers } in
      let quads : Quads (slice_set p h.i a') now on.0 new = subst (λ (zs : List Actor). Quads zs now on.0 new) h.after on.2 in
      let found = quad_at (slice_set p h.i a') now on.0 new quads h.i a' (set_here p h.i a' a h.next.there) in
      let n : Actor = found.0 in
      let b' : Actor = found.1 in
      let t : Actor = found.2 in
      let w : Twice a' n b' t = found.6 in
      let s = calls_swap h.w (turn_of a.notes) a.outcomes a.answers (detached number detaches ds) h.outcomes h.answers es h.calls in
      let turn : List Note = turn_of a.notes in
      let b : Actor = record { due = a.due; notes = turn ++ b'.notes; outcomes = s.0 ++ b'.outcomes; answers = a.answers } in
      let again = turn_again a.notes b'.notes (λ none. none_swapped a' b' w.swapped none) in
      let sw : Swapped a b = record {
        due = refl;
        answers = refl;
        on = λ has. let g = some_turn a.notes has in let l = length-append turn b'.notes in omega arith;
        back = λ has. h.next.unfinished;
      } in
      let split = turn_parts a.notes in
      let tw : Twice a n b t = record {
        swapped = sw;
        since = record {
          used = s.0 ++ w.since.used;
          made = turn ++ w.since.made;
          outcomes = s.1 ∙ ap (λ (xs : List Outcome). s.0 ++ xs) w.since.outcomes ∙ sym (append_assoc s.0 w.since.used n.outcomes);
          notes = sym split ∙ ap (λ (xs : List Note). turn ++ xs) w.since.notes ∙ sym (append_assoc turn w.since.made n.notes);
          count = calls_made turn w.since.made s.0 w.since.used s.2 w.since.count;
        };
        outcomes = ap (λ (xs : List Outcome). s.0 ++ xs) w.outcomes ∙ sym (append_assoc s.0 w.since.used t.outcomes);
        notes = ap (λ (xs : List Note). turn ++ xs) w.notes ∙ sym (append_assoc turn w.since.made t.notes);
      } in
      let q : List Actor = slice_set on.0 h.i b in
      let before : Quads p now q new = quad_before p now on.0 new h.i a a' n b b' t h.next.there quads found.3 found.4 found.5 tw in
      let calls : CallsMeet h.w (turn_of b.notes) b.outcomes b.answers (detached number detaches ds) b'.outcomes h.answers es =
      subst (λ (xs : List Note). CallsMeet h.w xs (s.0 ++ b'.outcomes) a.answers (detached number detaches ds) b'.outcomes h.answers es) (sym again.0) (s.3 b'.outcomes) in
      let moved : b' ≡ record { due = b.due + put_off (turn_of b.notes); notes = behind_turn b.notes; outcomes = b'.outcomes; answers = h.answers } =
      ap (λ (d : ℕ). record { due = d; notes = b'.notes; outcomes = b'.outcomes; answers = b'.answers }) (w.swapped.due ∙ ap (λ (xs : List Note). a.due + put_off xs) (sym again.0))
      ∙ ap (λ (xs : List Note). record { due = b.due + put_off (turn_of b.notes); notes = xs; outcomes = b'.outcomes; answers = b'.answers }) (sym again.1)
      ∙ ap (λ (ls : List AnswerLine). record { due = b.due + put_off (turn_of b.notes); notes = behind_turn b.notes; outcomes = b'.outcomes; answers = ls }) w.swapped.answers in
      let play : Plays ws detaches number q ds first on.0 es = record {
        i = h.i;
        a = b;
        w = h.w;
        next = next_swapped p now q new h.i a b before (set_here on.0 h.i b b' found.4) sw h.next;
        program = h.program;
        outcomes = b'.outcomes;
        answers = h.answers;
        calls = calls;
        made = h.made ∙ ap (λ (xs : List Note). map (line_at a.due h.i) (events_with_looks h.w.looks xs)) (sym again.0);
        after = put_back on.0 h.i b b' found.4 ∙ ap (λ (z : Actor). slice_set q h.i z) moved;
      } in
      (q, (first, more, on.0, es, play, on.1, refl), before)
    where
      calls_made : (xs ys : List Note) (us vs : List Outcome) → length us ≡ new_calls xs → new_calls ys ≡ length vs → new_calls (xs ++ ys) ≡ length (us ++ vs)
      calls_made xs ys us vs e f = omega (arith, calls_on xs ys, length-append us vs, e, f)

  pub played_again : (count number : ℕ) (p now new : List Actor) (ds ds' : List Device) (lines : List Line) → Played ws detaches number count p ds lines now ds' → AllZip Swapped now new
      → Again number count p ds lines now ds' new
  played_again zero number p now new ds ds' lines h sw = (
    new,
    (h.0, refl, h.2),
    subst (λ (zs : List Actor). Quads zs now new new) h.1 (quads_start now new sw),
  )
  played_again (suc count) number p now new ds ds' lines h sw =
      let on = played_again count (suc number) h.2 now new h.3 ds' h.1 h.5 sw in
      let r = plays_again number count p h.2 now new ds h.3 ds' h.0 h.1 h.4 on in
      (r.0, subst (λ (ls : List Line). Played ws detaches number (suc count) r.0 ds ls new ds') (sym h.6) r.1, r.2)

  -- what each program has met and made
  pub played_since : (count number : ℕ) (p now : List Actor) (ds ds' : List Device) (lines : List Line) → Played ws detaches number count p ds lines now ds' → AllZip Since p now
  played_since count number p now ds ds' lines h = since_of (played_again count number p now now ds ds' lines h (all_swapped now))
    where
      since : (p now q new : List Actor) → Quads p now q new → AllZip Since p now
      since [] [] [] [] h = tt
      since (a ∷ p) (n ∷ now) (b ∷ q) (t ∷ new) h = let w = h.0 in (w.since, since p now q new h.1)
      since _ _ _ _ h = absurd h

      since_of : Again number count p ds lines now ds' now → AllZip Since p now
      since_of r = since p now r.0 now r.2

      all_swapped : (now : List Actor) → AllZip Swapped now now
      all_swapped [] = tt
      all_swapped (n ∷ now) = (record { due = refl; answers = refl; on = λ h. h; back = λ h. h }, all_swapped now)
