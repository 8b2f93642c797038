-- A line tells that a program stalled exactly where none is ready.
use Rattle.std.proofs.Common.{◌≡◌, ℕ, List, [], ◌∷◌, map, Option, Some, None, Bool, true, false, refl, sym, ap, ◌∙◌}
use Rattle.std.specs.Prelude.{◌||◌}
use Rattle.std.specs.List.{list_any}
use Rattle.std.proofs.lemmas.List.{map-append}
use Rattle.std.proofs.lemmas.List.Folds.{list_any-append}
use Rattle.wa_model.specs.Outside.{Event, called, answered, paused, parked, returned, ended, shown, Line}
use Rattle.wa_model.specs.Blocking.{Note}
use Rattle.wa_model.specs.Store.{Store}
use Rattle.world_model.specs.World.{Look, turn_of, line_at, events_with_looks, looks_after, look_events}
use Rattle.mail_laws.specs.MailWorld.{a_turn, a_stall, parks, told_pause}
use Rattle.mail_laws.specs.Stalling.{stalls, tells_stalled, note_stalls, FirstStalls, StallsLast}

pub both_false : (a b : Bool) → a ≡ false → b ≡ false → (a || b) ≡ false
both_false true b e f = absurd cc
both_false false b e f = f

first_false : (a b : Bool) → (a || b) ≡ false → a ≡ false
first_false true b e = absurd cc
first_false false b e = refl

second_false : (a b : Bool) → (a || b) ≡ false → b ≡ false
second_false true b e = absurd cc
second_false false b e = e

told_calm : {X : Type 0} (p : Option X) (e : Event) → stalls e ≡ false → stalls (told_pause p e) ≡ false
told_calm None e h = h
told_calm (Some r) (paused t u) h = refl
told_calm (Some r) (ended how) h = h
told_calm (Some r) (called c) h = h
told_calm (Some r) (answered c) h = h
told_calm (Some r) (parked u) h = h
told_calm (Some r) (returned i v) h = h
told_calm (Some r) (shown i v) h = h

looks_calm : {X : Type 0} (p : Option X) (tick i : ℕ) (s : Store) (looks : List Look) → tells_stalled (map (λ (e : Event). line_at tick i (told_pause p e)) (look_events s looks)) ≡ false
looks_calm None tick i s [] = refl
looks_calm {X} None tick i s (x ∷ looks) = looks_calm {X = X} None tick i s looks
looks_calm (Some r) tick i s [] = refl
looks_calm (Some r) tick i s (x ∷ looks) = looks_calm (Some r) tick i s looks

abbrev line_of : {X : Type 0} → Option X → ℕ → ℕ → Event → Line
line_of p tick i e = line_at tick i (told_pause p e)

lines_calm : {X : Type 0} (p : Option X) (tick i : ℕ) (looks : List Look) (turn : List Note) → list_any note_stalls turn ≡ false
    → tells_stalled (map (λ (e : Event). line_at tick i (told_pause p e)) (events_with_looks looks turn)) ≡ false
lines_calm p tick i looks [] h = refl
lines_calm p tick i looks (x ∷ xs) h =
    ap tells_stalled (map-append (line_of p tick i) (x.event ∷ looks_after looks x x.event) (events_with_looks looks xs))
    ∙ list_any-append (λ (l : Line). stalls l.event) (map (line_of p tick i) (x.event ∷ looks_after looks x x.event)) (map (line_of p tick i) (events_with_looks looks xs))
    ∙ both_false (tells_stalled (map (line_of p tick i) (x.event ∷ looks_after looks x x.event))) (tells_stalled (map (line_of p tick i) (events_with_looks looks xs)))
    (both_false (stalls (told_pause p x.event)) (tells_stalled (map (line_of p tick i) (looks_after looks x x.event))) (told_calm p x.event (first_false (stalls x.event) (list_any note_stalls xs) h)) (after x.event))
    (lines_calm p tick i looks xs (second_false (stalls x.event) (list_any note_stalls xs) h))
  where
    after : (e : Event) → tells_stalled (map (λ (e : Event). line_at tick i (told_pause p e)) (looks_after looks x e)) ≡ false
    after (ended how) = looks_calm p tick i x.store looks
    after (paused t u) = refl
    after (called c) = refl
    after (answered c) = refl
    after (parked u) = refl
    after (returned j v) = refl
    after (shown j v) = refl

plain_looks : (tick i : ℕ) (s : Store) (looks : List Look) → tells_stalled (map (line_at tick i) (look_events s looks)) ≡ false
plain_looks tick i s [] = refl
plain_looks tick i s (x ∷ looks) = plain_looks tick i s looks

pub stalls_last : StallsLast
stalls_last programs detaches number actors actors' sh sh' lines (a_turn t) calm =
    (λ tells. absurd (never tells), λ none. absurd (none t.i t.a t.next.there t.next.ready))
  where
    none_told : tells_stalled lines ≡ false
    none_told =
        ap tells_stalled t.made
        ∙ lines_calm (parks (turn_of t.a.notes) t.behind.receive) t.a.due t.i t.w.looks (turn_of t.a.notes) (calm t)

    never : tells_stalled lines ≡ true → ⊥
    never e = let bad : true ≡ false = sym e ∙ none_told in cc
stalls_last programs detaches number actors actors' sh sh' lines (a_stall s) calm =
    (λ tells. (s.none_ready, first), λ none. (ap tells_stalled s.made, first))
  where
    first : FirstStalls actors sh.tick lines
    first = record {
      i = s.i;
      a = s.a;
      at = s.at;
      there = s.there;
      waits = s.waits;
      no_more = s.no_more;
      first = s.first;
      more = map (line_at sh.tick s.i) (look_events s.at.store s.w.looks);
      lines_are = s.made;
      calm = plain_looks sh.tick s.i s.at.store s.w.looks;
    }
