-- A program that is alone has one story: what its first call may meet fixes how each beginning goes on.
use Rattle.std.proofs.Common.{◌≡◌, ℕ, ◌+◌, List, [], ◌∷◌, ◌++◌, Some, refl, sym, ap, ◌∙◌, subst, append-nil, append_assoc}
use Rattle.std.proofs.lemmas.List.{map-append}
use Rattle.wa_model.specs.Outside.{AnswerLine, Call, Event, called}
use Rattle.wa_model.specs.Plan.{Outcome}
use Rattle.wa_model.specs.Blocking.{Note, events_of}
use Rattle.wa_model.specs.Behaves.{IsPrefix}
use Rattle.world_model.specs.World.{CallsMeet, Device, Meets, NoteMeets, Program, answers_from, call_in, protocol_story}
use Rattle.world_laws.specs.Originals.{new_calls, one_if}
use Rattle.world_laws.proofs.Heads.{next_same}
use Rattle.world_laws.proofs.StoryParts.{begins_any}
use Rattle.asyncify_app.specs.Telling.{ComesNext, TellsFirst}

-- ---- events of notes

abbrev calls_among : List Event → ℕ
calls_among [] = 0
calls_among (e ∷ es) = one_if (call_in e) + calls_among es

calls_told : (notes : List Note) → new_calls notes ≡ calls_among (events_of notes)
calls_told [] = refl
calls_told (x ∷ xs) = ap (λ (n : ℕ). one_if (call_in x.event) + n) (calls_told xs)

-- notes whose events begin so begin with notes of these events
pub split_by : (es rest : List Event) (notes : List Note) → events_of notes ≡ es ++ rest → (done : List Note) × (more : List Note) × (notes ≡ done ++ more) × (events_of done ≡ es)
split_by [] rest notes e = ([], notes, refl, refl)
split_by (y ∷ es) rest [] e = cc
split_by (y ∷ es) rest (x ∷ xs) e =
    let on = split_by es rest xs (tail e) in (x ∷ on.0, on.1, ap (λ (ns : List Note). x ∷ ns) on.2, ap (λ (v : Event). v ∷ events_of on.0) (head e) ∙ ap (λ (vs : List Event). y ∷ vs) on.3)
  where
    head : x.event ∷ events_of xs ≡ y ∷ (es ++ rest) → x.event ≡ y
    head e = cc

    tail : x.event ∷ events_of xs ≡ y ∷ (es ++ rest) → events_of xs ≡ es ++ rest
    tail e = cc

events_joined : (xs ys : List Note) → events_of (xs ++ ys) ≡ events_of xs ++ events_of ys
events_joined xs ys = map-append (λ (x : Note). x.event) xs ys

prefix_events : (xs ys : List Note) → IsPrefix xs ys → IsPrefix (events_of xs) (events_of ys)
prefix_events xs ys h = (events_of h.0, ap events_of h.1 ∙ events_joined xs h.0)

-- ---- one story

module _ (w : Program) (c : Call) (tail rest : List Event) (g : Outcome) (story : events_of (protocol_story w (g ∷ [])) ≡ (called c ∷ tail) ++ rest) (one : calls_among tail ≡ 0)
    (only : (o : Outcome) (lines : List AnswerLine) (ds : List Device) → Meets w c.import c.args (answers_from w.answers w.origin) [] o lines ds → o ≡ g) where
  abbrev events : List Event
  events = called c ∷ tail

  -- with this outcome first the story begins so, whatever comes behind
  begins_so : (os : List Outcome) → (more : List Event) × (events_of (protocol_story w (g ∷ os)) ≡ events ++ more)
  begins_so os =
      let s = split_by events rest (protocol_story w (g ∷ [])) story in
      let count : new_calls s.0 ≡ 1 = calls_told s.0 ∙ ap calls_among s.3 ∙ ap (λ (n : ℕ). 1 + n) one in
      let b = begins_any w (g ∷ []) [] os s.0 count (s.1, s.2) in
      (events_of b.0, ap events_of b.1 ∙ events_joined s.0 b.0 ∙ ap (λ (es : List Event). es ++ events_of b.0) s.3)

  -- the first note of any story is the call
  first_is : (os : List Outcome) (x : Note) (n : List Note) → protocol_story w os ≡ x ∷ n → x.event ≡ called c
  first_is os x n e =
      let s = split_by (called c ∷ []) (tail ++ rest) (protocol_story w (g ∷ [])) story in
      by s.0 s.1 s.2 s.3
    where
      by : (done more : List Note) → protocol_story w (g ∷ []) ≡ done ++ more → events_of done ≡ called c ∷ [] → x.event ≡ called c
      by [] more is told = cc
      by (y ∷ ys) more is told =
          let here : y.event ≡ called c = cc in
          (next_same w [] (g ∷ []) os [] y x (ys ++ more) n refl is e).0 ∙ here

  -- so it meets that outcome
  meets_it : (x : Note) (xs : List Note) (o : Outcome) (os : List Outcome) (lines : List AnswerLine) → x.event ≡ called c → CallsMeet w (x ∷ xs) (o ∷ os) (answers_from w.answers w.origin) [] [] lines [] → o ≡ g
  meets_it x xs o os lines is meets =
      let m : NoteMeets w (Some c) (o ∷ os) (answers_from w.answers w.origin) [] (λ q l d. CallsMeet w xs q l d [] lines []) =
      subst (λ (v : Event). NoteMeets w (call_in v) (o ∷ os) (answers_from w.answers w.origin) [] (λ q l d. CallsMeet w xs q l d [] lines [])) is meets in
      let same : o ∷ os ≡ m.0 ∷ m.1 = m.4 in
      let head : o ≡ m.0 = cc in
      head ∙ only m.0 m.2 m.3 m.5

  pub tells_first : TellsFirst w events
  tells_first [] b = (rest, (events ++ rest, refl))
  tells_first (x ∷ xs) b = by b.outcomes b.meets b.begins
    where
      by : (os : List Outcome) → CallsMeet w (x ∷ xs) os (answers_from w.answers w.origin) [] [] b.lines [] → ((more : List Outcome) → IsPrefix (x ∷ xs) (protocol_story w (os ++ more)))
          → (rest : List Event) × IsPrefix (events_of (x ∷ xs)) (events ++ rest)
      by [] meets begins = (rest, subst (IsPrefix (events_of (x ∷ xs))) story (prefix_events (x ∷ xs) (protocol_story w (g ∷ [])) (begins (g ∷ []))))
      by (o ∷ os) meets begins =
          let all : IsPrefix (x ∷ xs) (protocol_story w (o ∷ os)) = subst (λ (qs : List Outcome). IsPrefix (x ∷ xs) (protocol_story w qs)) (append-nil (o ∷ os)) (begins []) in
          let is : x.event ≡ called c = first_is (o ∷ os) x (xs ++ all.0) all.1 in
          let same : o ≡ g = meets_it x xs o os b.lines is meets in
          let so = begins_so os in
          let there : IsPrefix (x ∷ xs) (protocol_story w (g ∷ os)) = subst (λ (q : Outcome). IsPrefix (x ∷ xs) (protocol_story w (q ∷ os))) same all in
          (so.0, subst (IsPrefix (events_of (x ∷ xs))) so.1 (prefix_events (x ∷ xs) (protocol_story w (g ∷ os)) there))

-- ---- the next event

-- what is told first comes next, behind notes of what comes before it
pub comes_next : (w : Program) (before : List Event) (event : Event) (behind : List Event) → TellsFirst w (before ++ event ∷ behind) → (notes : List Note) → events_of notes ≡ before
    → ComesNext w notes event
comes_next w before event behind first notes is x b =
    let all = first (notes ++ x ∷ []) b in
    let told : events_of (notes ++ x ∷ []) ≡ before ++ x.event ∷ [] = events_joined notes (x ∷ []) ∙ ap (λ (es : List Event). es ++ x.event ∷ []) is in
    let one : before ++ (event ∷ (behind ++ all.0)) ≡ before ++ (x.event ∷ all.1.0) =
    sym (append_assoc before (event ∷ behind) all.0) ∙ all.1.1 ∙ ap (λ (es : List Event). es ++ all.1.0) told ∙ append_assoc before (x.event ∷ []) all.1.0 in
    same_there before event x.event (behind ++ all.0) all.1.0 one
  where
    same_there : (before : List Event) (a b : Event) (us vs : List Event) → before ++ a ∷ us ≡ before ++ b ∷ vs → b ≡ a
    same_there [] a b us vs e = cc
    same_there (y ∷ ys) a b us vs e = same_there ys a b us vs (rest e)
      where
        rest : y ∷ (ys ++ a ∷ us) ≡ y ∷ (ys ++ b ∷ vs) → ys ++ a ∷ us ≡ ys ++ b ∷ vs
        rest e = cc
