-- The events of a world are those of another, whose programs make the same calls and whose actors print the same.
use Rattle.std.proofs.Common.{arith, ◌≡◌, ◌≤◌, ◌+◌, ℕ, zero, suc, List, [], ◌∷◌, ◌++◌, length, Some, refl, sym, ap, ◌∙◌, subst}
use Rattle.std.specs.Prelude.{map, slice_get, slice_set}
use Rattle.std.proofs.lemmas.List.Elements.{All-cons, All-head, All-tail}
use Rattle.std.proofs.lemmas.Option.{same_Some}
use Rattle.wa_model.specs.declared.answers.Detach.{Detach}
use Rattle.wa_model.specs.Blocking.{Note}
use Rattle.wa_model.specs.Outside.{AnswerLine, Event, Line}
use Rattle.wa_model.specs.Plan.{Outcome}
use Rattle.world_model.specs.World.{Actor, CallsMeet, Device, Events, IsNext, IsOver, Look, Plays, Program, an_event, behind_turn, detached, events_with_looks, line_at, no_event}
use Rattle.world_model.specs.World.{put_off, turn_lines, turn_of}
use Rattle.world_laws.specs.Originals.{new_calls}
use Rattle.world_laws.proofs.Meeting.{SameCalls, calls_trimmed}
use Rattle.world_laws.proofs.Nexts.{next_beside}
use Rattle.world_laws.proofs.Shows.{Alike, alike_behind, alike_events, alike_length, alike_put_off, alike_turn, turn_calls}

-- A program w and its actor a, and a program v in its place with the actor b, whose outcomes are enough for the calls.
pub record Row (w v : Program) (a b : Actor) : Type 0 where
  pub calls : SameCalls w v
  pub looks : w.looks ≡ v.looks
  pub due : b.due ≡ a.due
  pub answers : b.answers ≡ a.answers
  pub notes : Alike w.looks b.notes a.notes
  pub rest : List Outcome
  pub outcomes : a.outcomes ≡ b.outcomes ++ rest
  pub enough : new_calls a.notes ≤ length b.outcomes

abbrev pub Rows : List Program → List Program → List Actor → List Actor → Type 0
Rows [] [] [] [] = Unit {0}
Rows (w ∷ ws) (v ∷ vs) (a ∷ acts) (b ∷ bs) = Row w v a b × Rows ws vs acts bs
Rows _ _ _ _ = ⊥

pub rows_on : (ws ws' vs vs' : List Program) (acts acts' bs bs' : List Actor) → Rows ws vs acts bs → Rows ws' vs' acts' bs' → Rows (ws ++ ws') (vs ++ vs') (acts ++ acts') (bs ++ bs')
rows_on [] ws' [] vs' [] acts' [] bs' h k = k
rows_on (w ∷ ws) ws' (v ∷ vs) vs' (a ∷ acts) acts' (b ∷ bs) bs' h k = (h.0, rows_on ws ws' vs vs' acts acts' bs bs' h.1 k)
rows_on _ ws' _ vs' _ acts' _ bs' h k = absurd h

-- the other way
pub alike_back : (looks : List Look) (xs ys : List Note) → Alike looks xs ys → Alike looks ys xs
alike_back looks [] [] h = tt
alike_back looks [] (y ∷ ys) h = absurd h
alike_back looks (x ∷ xs) [] h = absurd h
alike_back looks (x ∷ xs) (y ∷ ys) h = (record { event = sym (h.0).event; shows = sym (h.0).shows }, alike_back looks xs ys h.1)

-- the row of a number
abbrev Found : List Program → List Actor → ℕ → Actor → Program → Type 0
Found vs bs i a w = (v : Program) × (b : Actor) × (slice_get vs i ≡ Some v) × (slice_get bs i ≡ Some b) × Row w v a b

row_at : (ws vs : List Program) (acts bs : List Actor) → Rows ws vs acts bs → (i : ℕ) (a : Actor) (w : Program) → slice_get acts i ≡ Some a → slice_get ws i ≡ Some w → Found vs bs i a w
row_at [] [] [] [] h i a w ea ew = let no_way : ⊥ = cc in absurd no_way
row_at (w ∷ ws) (v ∷ vs) (a ∷ acts) (b ∷ bs) h zero a' w' ea ew =
    (v, b, refl, refl, subst (λ (z : Program). Row z v a' b) (same_Some w w' ew) (subst (λ (z : Actor). Row w v z b) (same_Some a a' ea) h.0))
row_at (w ∷ ws) (v ∷ vs) (a ∷ acts) (b ∷ bs) h (suc i) a' w' ea ew = row_at ws vs acts bs h.1 i a' w' ea ew
row_at _ _ _ _ h i a w ea ew = absurd h

-- the actor beside one of the others
abbrev Back : List Actor → ℕ → Actor → Type 0
Back acts i b = (a : Actor) × (slice_get acts i ≡ Some a) × (b.due ≡ a.due) × (length b.notes ≡ length a.notes)

row_back : (ws vs : List Program) (acts bs : List Actor) → Rows ws vs acts bs → (i : ℕ) (b : Actor) → slice_get bs i ≡ Some b → Back acts i b
row_back [] [] [] [] h i b e = let no_way : ⊥ = cc in absurd no_way
row_back (w ∷ ws) (v ∷ vs) (a ∷ acts) (b ∷ bs) h zero b' e =
    let r = h.0 in
    subst (λ (z : Actor). Back (a ∷ acts) 0 z) (same_Some b b' e) (a, refl, r.due, alike_length w.looks b.notes a.notes r.notes)
row_back (w ∷ ws) (v ∷ vs) (a ∷ acts) (b ∷ bs) h (suc i) b' e = row_back ws vs acts bs h.1 i b' e
row_back _ _ _ _ h i b e = absurd h

row_set : (ws vs : List Program) (acts bs : List Actor) → Rows ws vs acts bs → (i : ℕ) (w v : Program) (a b : Actor) → slice_get ws i ≡ Some w → slice_get vs i ≡ Some v → Row w v a b
    → Rows ws vs (slice_set acts i a) (slice_set bs i b)
row_set [] [] [] [] h i w v a b ew ev r = tt
row_set (w ∷ ws) (v ∷ vs) (a ∷ acts) (b ∷ bs) h zero w' v' a' b' ew ev r =
    (subst (λ (z : Program). Row z v a' b') (sym (same_Some w w' ew)) (subst (λ (z : Program). Row w' z a' b') (sym (same_Some v v' ev)) r), h.1)
row_set (w ∷ ws) (v ∷ vs) (a ∷ acts) (b ∷ bs) h (suc i) w' v' a' b' ew ev r = (h.0, row_set ws vs acts bs h.1 i w' v' a' b' ew ev r)
row_set _ _ _ _ h i w v a b ew ev r = absurd h

next_row : (ws vs : List Program) (acts bs : List Actor) (i : ℕ) (a b : Actor) → Rows ws vs acts bs → slice_get bs i ≡ Some b → b.due ≡ a.due → length b.notes ≡ length a.notes
    → IsNext acts i a → IsNext bs i b
next_row ws vs acts bs i a b rows there due len n =
    next_beside acts bs i a b there due (omega (arith, len, n.unfinished))
    (λ j c e has. let r = row_back ws vs acts bs rows j c e in (r.0, r.1, sym r.2, omega (arith, r.3, has))) n

-- an event of the one world is one of the other
plays_beside : (ws vs : List Program) (acts bs : List Actor) (detaches : List Detach) (number : ℕ) (ds : List Device) (lines : List Line) (acts' : List Actor) (ds' : List Device)
    → Rows ws vs acts bs → Plays ws detaches number acts ds lines acts' ds' → (bs' : List Actor) × Plays vs detaches number bs ds lines bs' ds' × Rows ws vs acts' bs'
plays_beside ws vs acts bs detaches number ds lines acts' ds' rows h = by_row (row_at ws vs acts bs rows h.i h.a h.w h.next.there h.program)
  where
    a' : Actor
    a' = record { due = h.a.due + put_off (turn_of h.a.notes); notes = behind_turn h.a.notes; outcomes = h.outcomes; answers = h.answers }

    by_row : Found vs bs h.i h.a h.w → (bs' : List Actor) × Plays vs detaches number bs ds lines bs' ds' × Rows ws vs acts' bs'
    by_row f =
        let v : Program = f.0 in
        let b : Actor = f.1 in
        let r : Row h.w v h.a b = f.4 in
        let turn = alike_turn h.w.looks b.notes h.a.notes r.notes in
        let behind = alike_behind h.w.looks b.notes h.a.notes r.notes in
        let split = turn_calls h.a.notes in
        let calls : CallsMeet h.w (turn_of h.a.notes) (b.outcomes ++ r.rest) b.answers (detached number detaches ds) h.outcomes h.answers ds' =
        subst (λ (ls : List AnswerLine). CallsMeet h.w (turn_of h.a.notes) (b.outcomes ++ r.rest) ls (detached number detaches ds) h.outcomes h.answers ds') (sym r.answers)
        (subst (λ (xs : List Outcome). CallsMeet h.w (turn_of h.a.notes) xs h.a.answers (detached number detaches ds) h.outcomes h.answers ds') r.outcomes h.calls) in
        let t = calls_trimmed h.w.looks h.w v r.calls (turn_of b.notes) (turn_of h.a.notes) turn b.outcomes r.rest b.answers (detached number detaches ds) h.outcomes h.answers ds' calls
        (omega (arith, split, r.enough)) in
        let b' : Actor = record { due = b.due + put_off (turn_of b.notes); notes = behind_turn b.notes; outcomes = t.0; answers = h.answers } in
        let row : Row h.w v a' b' = record {
          calls = r.calls;
          looks = r.looks;
          due = omega (arith, r.due, alike_put_off h.w.looks (turn_of b.notes) (turn_of h.a.notes) turn);
          answers = refl;
          notes = behind;
          rest = r.rest;
          outcomes = t.2;
          enough = omega (arith, split, r.enough, t.3);
        } in
        let made : lines ≡ turn_lines h.i v b =
        h.made
        ∙ ap (λ (es : List Event). map (line_at h.a.due h.i) es) (sym (alike_events h.w.looks (turn_of b.notes) (turn_of h.a.notes) turn))
        ∙ ap (λ (n : ℕ). map (line_at n h.i) (events_with_looks h.w.looks (turn_of b.notes))) (sym r.due)
        ∙ ap (λ (ls : List Look). map (line_at b.due h.i) (events_with_looks ls (turn_of b.notes))) r.looks in (
          slice_set bs h.i b',
          record {
            i = h.i;
            a = b;
            w = v;
            next = next_row ws vs acts bs h.i h.a b rows f.3 r.due (alike_length h.w.looks b.notes h.a.notes r.notes) h.next;
            program = f.2;
            outcomes = t.0;
            answers = h.answers;
            calls = t.1;
            made = made;
            after = refl;
          },
          subst (λ (xs : List Actor). Rows ws vs xs (slice_set bs h.i b')) (sym h.after) (row_set ws vs acts bs rows h.i h.w v a' b' h.program f.2 row),
        )

pub events_beside : (ws vs : List Program) (detaches : List Detach) (number : ℕ) (acts bs : List Actor) (ds : List Device) (lines : List Line) (last : List Actor) (ds' : List Device)
    → Rows ws vs acts bs → Events ws detaches number acts ds lines last ds' → (last' : List Actor) × Events vs detaches number bs ds lines last' ds' × Rows ws vs last last'
events_beside ws vs detaches number acts bs ds lines last ds' rows no_event = (bs, no_event, rows)
events_beside ws vs detaches number acts bs ds lines last ds' rows (an_event {actors' = acts1} {ds' = ds1} {lines = first} {more = more} play rest e) =
    let p = plays_beside ws vs acts bs detaches number ds first acts1 ds1 rows play in
    let on = events_beside ws vs detaches (suc number) acts1 p.0 ds1 more last ds' p.2 rest in
    (on.0, an_event p.1 on.1 e, on.2)

-- where one world is over the other is
pub over_beside : (ws vs : List Program) (acts bs : List Actor) → Rows ws vs acts bs → IsOver acts → IsOver bs
over_beside [] [] [] [] h over = over
over_beside (w ∷ ws) (v ∷ vs) (a ∷ acts) (b ∷ bs) h over =
    All-cons (λ (a : Actor). a.notes ≡ []) b bs (none b.notes (let r = h.0 in subst (Alike w.looks b.notes) (All-head (λ (a : Actor). a.notes ≡ []) a acts over) r.notes))
    (over_beside ws vs acts bs h.1 (All-tail (λ (a : Actor). a.notes ≡ []) a acts over))
  where
    none : (xs : List Note) → Alike w.looks xs [] → xs ≡ []
    none [] z = refl
    none (x ∷ xs) z = absurd z
over_beside _ _ _ _ h over = absurd h
