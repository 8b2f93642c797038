-- What the lines of a world with mailboxes tell of one program.
use Rattle.std.proofs.Common.{◌≡◌, ◌⊎◌, inl, inr, ◌+◌, ℕ, suc, List, [], ◌∷◌, ◌++◌, map, Option, Some, None, Bool, true, false, refl, sym, ap, ◌∙◌}
use Rattle.std.specs.Prelude.{nat_eq, slice_get, slice_set, ◌||◌, ◌&&◌}
use Rattle.std.specs.List.{list_any}
use Rattle.std.specs.Option.{unwrap_or}
use Rattle.std.proofs.lemmas.Bool.{cases_eq, ne_eqb}
use Rattle.std.proofs.lemmas.List.Folds.{list_any-append}
use Rattle.std.proofs.lemmas.Option.{same_Some}
use Rattle.wa_model.specs.declared.answers.Detach.{Detach}
use Rattle.wa_model.specs.declared.events.End.TheVariants.{Stalled}
use Rattle.wa_model.specs.Outside.{Event, called, answered, paused, parked, returned, ended, shown, Line}
use Rattle.wa_model.specs.Blocking.{Note}
use Rattle.world_model.specs.World.{Program, behind_turn, events_with_looks, line_at, look_events, put_off, turn_of}
use Rattle.world_laws.proofs.Places.{all_at, set_here, set_there}
use Rattle.world_laws.proofs.Turns.{turn_parts}
use Rattle.mail_laws.specs.Mailboxes.{Receive, Shared}
use Rattle.mail_laws.specs.MailWorld.{Actor, Events, HasEnded, IsOver, Plays, a_stall, a_turn, an_event, no_event, nobody, parked_at, parks, store_behind, told_pause, wake, woken}
use Rattle.world_hosting.specs.Endings.{tells_any}
use Rattle.world_hosting.proofs.StoryEnds.{any_note, looks_none, notes_any, same_number}

-- who is woken has the notes that it had
woken_notes : (due : ℕ) (is : List ℕ) (actors : List Actor) (j : ℕ) (a : Actor) → slice_get actors j ≡ Some a → (b : Actor) × (slice_get (wake due is actors) j ≡ Some b) × (a.notes ≡ b.notes)
woken_notes due [] actors j a e = (a, e, refl)
woken_notes due (i ∷ is) actors j a e = by (cases_eq j i) (λ acts c f. woken_notes due is acts j c f)
  where
    by : (j ≡ i) ⊎ (j ≡ i → ⊥) → ((acts : List Actor) (c : Actor) → slice_get acts j ≡ Some c → (b : Actor) × (slice_get (wake due is acts) j ≡ Some b) × (c.notes ≡ b.notes))
        → (b : Actor) × (slice_get (wake due is (slice_set actors i (woken due (unwrap_or (slice_get actors i) nobody)))) j ≡ Some b) × (a.notes ≡ b.notes)
    by (inl same) on =
        let there : slice_get actors i ≡ Some a = ap (slice_get actors) (sym same) ∙ e in
        let now : slice_get (slice_set actors i (woken due (unwrap_or (slice_get actors i) nobody))) j ≡ Some (woken due a) =
        ap (slice_get (slice_set actors i (woken due (unwrap_or (slice_get actors i) nobody)))) same
        ∙ set_here actors i (woken due (unwrap_or (slice_get actors i) nobody)) a there
        ∙ ap (λ (o : Option Actor). Some (woken due (unwrap_or o nobody))) there in
        on (slice_set actors i (woken due (unwrap_or (slice_get actors i) nobody))) (woken due a) now
    by (inr other) on =
        on (slice_set actors i (woken due (unwrap_or (slice_get actors i) nobody))) a (set_there actors i j (woken due (unwrap_or (slice_get actors i) nobody)) other ∙ e)

-- of events whose kinds neither look at a memory, nor pause, nor stall
pub record Others (test : Event → Bool) : Type 0 where
  pub looks : (at : ℕ) (bytes : Option (List ℕ)) → test (shown at bytes) ≡ false
  pub pause : (ticks used : ℕ) → test (paused ticks used) ≡ false
  pub parking : (used : ℕ) → test (parked used) ≡ false
  pub stall : (import : ℕ) → test (ended (Stalled import)) ≡ false

module _ (test : Event → Bool) (others : Others test) where
  as_told : (p : Option Receive) (e : Event) → test (told_pause p e) ≡ test e
  as_told None e = refl
  as_told (Some r) (paused t u) = others.parking u ∙ sym (others.pause t u)
  as_told (Some r) (ended how) = refl
  as_told (Some r) (called c) = refl
  as_told (Some r) (answered v) = refl
  as_told (Some r) (parked u) = refl
  as_told (Some r) (returned i v) = refl
  as_told (Some r) (shown i v) = refl

  abbrev told_lines : (i due : ℕ) → Option Receive → List Event → List Line
  told_lines i due p es = map (λ (e : Event). line_at due i (told_pause p e)) es

  own_told : (i due : ℕ) (p : Option Receive) (es : List Event) → tells_any i test (told_lines i due p es) ≡ list_any test es
  own_told i due p [] = refl
  own_told i due p (e ∷ es) =
      ap (λ (b : Bool). (b && test (told_pause p e)) || tells_any i test (told_lines i due p es)) (same_number i)
      ∙ ap (λ (b : Bool). b || tells_any i test (told_lines i due p es)) (as_told p e)
      ∙ ap (λ (b : Bool). test e || b) (own_told i due p es)

  other_told : (i j due : ℕ) (p : Option Receive) (es : List Event) → (i ≡ j → ⊥) → tells_any i test (told_lines j due p es) ≡ false
  other_told i j due p [] h = refl
  other_told i j due p (e ∷ es) h =
      ap (λ (b : Bool). (b && test (told_pause p e)) || tells_any i test (told_lines j due p es)) (ne_eqb j i (λ f. h (sym f))) ∙ other_told i j due p es h

  stalled_none : (number i tick : ℕ) (es : List Event) → list_any test es ≡ false → tells_any number test (map (line_at tick i) es) ≡ false
  stalled_none number i tick [] h = refl
  stalled_none number i tick (e ∷ es) h = by (nat_eq i number) (test e) h (λ f. stalled_none number i tick es f)
    where
      by : (a b : Bool) → (b || list_any test es) ≡ false → (list_any test es ≡ false → tells_any number test (map (line_at tick i) es) ≡ false)
          → ((a && b) || tells_any number test (map (line_at tick i) es)) ≡ false
      by a true f on = absurd cc
      by true false f on = on f
      by false false f on = on f

  module _ (programs : List Program) (detaches : List Detach) (i : ℕ) where
    -- an event tells the front of the notes of an actor, and leaves it the others
    abbrev Tells : Actor → List Line → List Actor → Type 0
    Tells a lines acts' = (front : List Note) × (b : Actor) × (slice_get acts' i ≡ Some b) × (tells_any i test lines ≡ any_note test front) × (front ++ b.notes ≡ a.notes)

    event_tells : (number : ℕ) (acts acts' : List Actor) (sh sh' : Shared) (lines : List Line) → Plays programs detaches number acts sh lines acts' sh' → (a : Actor) → slice_get acts i ≡ Some a
        → Tells a lines acts'
    event_tells number acts acts' sh sh' lines (a_turn t) a at = by (cases_eq i t.i)
      where
        moved : Actor
        moved = record {
          due = t.a.due + put_off (turn_of t.a.notes);
          notes = behind_turn t.a.notes;
          outcomes = t.outcomes;
          answers = t.answers;
          parked = parked_at (store_behind (turn_of t.a.notes)) (parks (turn_of t.a.notes) t.behind.receive);
        }

        by : (i ≡ t.i) ⊎ (i ≡ t.i → ⊥) → Tells a lines acts'
        by (inl same) =
            let is_a : t.a ≡ a = same_Some t.a a (sym t.next.there ∙ ap (slice_get acts) (sym same) ∙ at) in
            let w = woken_notes (suc t.a.due) t.behind.settled (slice_set acts t.i moved) i moved (ap (slice_get (slice_set acts t.i moved)) same ∙ set_here acts t.i moved t.a t.next.there) in (
              turn_of t.a.notes,
              w.0,
              ap (λ (l : List Actor). slice_get l i) t.after ∙ w.1,
              ap (λ (k : ℕ). tells_any k test lines) same ∙ ap (tells_any t.i test) t.made
                  ∙ own_told t.i t.a.due (parks (turn_of t.a.notes) t.behind.receive) (events_with_looks t.w.looks (turn_of t.a.notes)) ∙ notes_any test others.looks t.w.looks (turn_of t.a.notes),
              ap (λ (ns : List Note). turn_of t.a.notes ++ ns) (sym w.2) ∙ turn_parts t.a.notes ∙ ap (λ (b : Actor). b.notes) is_a,
            )
        by (inr other) =
            let w = woken_notes (suc t.a.due) t.behind.settled (slice_set acts t.i moved) i a (set_there acts t.i i moved other ∙ at) in (
              [],
              w.0,
              ap (λ (l : List Actor). slice_get l i) t.after ∙ w.1,
              ap (tells_any i test) t.made ∙ other_told i t.i t.a.due (parks (turn_of t.a.notes) t.behind.receive) (events_with_looks t.w.looks (turn_of t.a.notes)) other,
              sym w.2,
            )
    event_tells number acts acts' sh sh' lines (a_stall s) a at = by (cases_eq i s.i)
      where
        moved : Actor
        moved = record s.a { parked = None }

        none : tells_any i test lines ≡ false
        none =
            ap (tells_any i test) s.made
            ∙ stalled_none i s.i sh.tick (ended (Stalled s.at.import) ∷ look_events s.at.store s.w.looks)
            (ap (λ (b : Bool). b || list_any test (look_events s.at.store s.w.looks)) (others.stall s.at.import) ∙ looks_none test others.looks s.at.store s.w.looks)

        by : (i ≡ s.i) ⊎ (i ≡ s.i → ⊥) → Tells a lines acts'
        by (inl same) =
            let is_a : s.a ≡ a = same_Some s.a a (sym s.there ∙ ap (slice_get acts) (sym same) ∙ at) in
            ([], moved, ap (λ (l : List Actor). slice_get l i) s.after ∙ ap (slice_get (slice_set acts s.i moved)) same ∙ set_here acts s.i moved s.a s.there, none, ap (λ (b : Actor). b.notes) is_a)
        by (inr other) = ([], a, ap (λ (l : List Actor). slice_get l i) s.after ∙ set_there acts s.i i moved other ∙ at, none, refl)

    pub lines_any : (number : ℕ) (acts last : List Actor) (sh sh' : Shared) (lines : List Line) → Events programs detaches number acts sh lines last sh' → IsOver last → (a : Actor)
        → slice_get acts i ≡ Some a → tells_any i test lines ≡ any_note test a.notes
    lines_any number acts last sh sh' lines no_event over a at = let h = all_at HasEnded acts i a over at in sym (ap (any_note test) h.no_notes)
    lines_any number acts last sh sh' lines (an_event {actors' = mid} {sh' = z} {lines = first} {more = more} play rest split) over a at =
        let one = event_tells number acts mid sh z first play a at in
        ap (tells_any i test) split
        ∙ list_any-append (λ (l : Line). nat_eq l.program i && test l.event) first more
        ∙ ap (λ (b : Bool). b || tells_any i test more) one.3
        ∙ ap (λ (b : Bool). any_note test one.0 || b) (lines_any (suc number) mid last z sh' more rest over one.1 one.2)
        ∙ sym (list_any-append (λ (x : Note). test x.event) one.0 one.1.notes)
        ∙ ap (any_note test) one.4
