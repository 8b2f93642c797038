-- The next program: where not all have ended there is one, and of lists beside each other it is the same.
use Rattle.std.proofs.Common.{arith, ◌≡◌, ◌≤◌, ◌<◌, ◌⊎◌, inl, inr, ℕ, zero, suc, List, [], ◌∷◌, length, Some, slice_get, refl, sym, ap, ◌∙◌, subst, ⊎_elim}
use Rattle.std.proofs.lemmas.Bool.{cases_lt}
use Rattle.std.proofs.lemmas.List.Elements.{All-nil, All-cons}
use Rattle.std.proofs.lemmas.Option.{same_Some}
use Rattle.wa_model.specs.Blocking.{Note}
use Rattle.world_model.specs.World.{Actor, HasNotes, IsNext, IsOver}
use Rattle.world_laws.proofs.Places.{all_at}

abbrev pub SomeNext : List Actor → Type 0
SomeNext acts = (i : ℕ) × (a : Actor) × IsNext acts i a

pub none_or_some : (xs : List Note) → (xs ≡ []) ⊎ (0 < length xs)
none_or_some [] = inl refl
none_or_some (x ∷ xs) = inr (omega arith)

no_notes : (a : Actor) → a.notes ≡ [] → HasNotes a → ⊥
no_notes a e has = let z : length a.notes ≡ 0 = ap length e in omega (arith, z, has)

over_none : (acts : List Actor) → IsOver acts → (j : ℕ) (b : Actor) → slice_get acts j ≡ Some b → HasNotes b → ⊥
over_none acts over j b e has = no_notes b (all_at (λ (a : Actor). a.notes ≡ []) acts j b over e) has

-- the first of a list, where no other is due before it
first_next : (a : Actor) (acts : List Actor) → HasNotes a → ((j : ℕ) (b : Actor) → slice_get acts j ≡ Some b → HasNotes b → a.due ≤ b.due) → IsNext (a ∷ acts) 0 a
first_next a acts has before = record { there = refl; unfinished = has; least = least }
  where
    least : (j : ℕ) (b : Actor) → slice_get (a ∷ acts) j ≡ Some b → HasNotes b → (a.due < b.due) ⊎ ((a.due ≡ b.due) × (0 ≤ j))
    least zero b e h = inr (ap (λ (c : Actor). c.due) (same_Some a b e), omega arith)
    least (suc j) b e h = let le = before j b e h in ⊎_elim (λ lt. inl lt) (λ ge. inr (omega (arith, le, ge), omega arith)) (cases_lt a.due b.due)

-- the next of the others, where the first has ended or comes later
next_behind : (a : Actor) (acts : List Actor) (i : ℕ) (c : Actor) → IsNext acts i c → (HasNotes a → c.due < a.due) → IsNext (a ∷ acts) (suc i) c
next_behind a acts i c n late = record { there = n.there; unfinished = n.unfinished; least = least }
  where
    least : (j : ℕ) (b : Actor) → slice_get (a ∷ acts) j ≡ Some b → HasNotes b → (c.due < b.due) ⊎ ((c.due ≡ b.due) × (suc i ≤ j))
    least zero b e h =
        let same : a ≡ b = same_Some a b e in
        inl (subst (λ (z : Actor). c.due < z.due) same (late (subst HasNotes (sym same) h)))
    least (suc j) b e h = ⊎_elim (λ lt. inl lt) (λ same. inr (same.0, let le = same.1 in omega arith)) (n.least j b e h)

pub some_next : (acts : List Actor) → IsOver acts ⊎ SomeNext acts
some_next [] = inl (All-nil (λ (a : Actor). a.notes ≡ []))
some_next (a ∷ acts) = by_notes (none_or_some a.notes) (some_next acts)
  where
    by_due : (i : ℕ) (c : Actor) → HasNotes a → IsNext acts i c → (c.due < a.due) ⊎ (a.due ≤ c.due) → SomeNext (a ∷ acts)
    by_due i c has n (inl lt) = (suc i, c, next_behind a acts i c n (λ h. lt))
    by_due i c has n (inr le) =
        (0, a, first_next a acts has (λ j b e h. ⊎_elim (λ lt. omega (arith, le, lt)) (λ same. omega (arith, le, same.0)) (n.least j b e h)))

    by_notes : (a.notes ≡ []) ⊎ (0 < length a.notes) → IsOver acts ⊎ SomeNext acts → IsOver (a ∷ acts) ⊎ SomeNext (a ∷ acts)
    by_notes (inl e) (inl over) = inl (All-cons (λ (a : Actor). a.notes ≡ []) a acts e over)
    by_notes (inl e) (inr n) = inr (suc n.0, n.1, next_behind a acts n.0 n.1 n.2 (λ h. absurd (no_notes a e h)))
    by_notes (inr has) (inl over) = inr (0, a, first_next a acts has (λ j b e h. absurd (over_none acts over j b e h)))
    by_notes (inr has) (inr n) = inr (by_due n.0 n.1 has n.2 (cases_lt n.1.due a.due))

-- an actor of this place is due at this tick, and has notes
abbrev pub IsDueAt : List Actor → ℕ → (due : ℕ) → Type 0
IsDueAt acts i due = (a : Actor) × (slice_get acts i ≡ Some a) × (a.due ≡ due) × HasNotes a

pub none_due : (acts : List Actor) → IsOver acts → (i due : ℕ) → IsDueAt acts i due → ⊥
none_due acts over i due r = over_none acts over i r.0 r.1 r.3

-- the next of a list is the next of one whose programs with notes have them there too
pub next_beside : (p q : List Actor) (i : ℕ) (a b : Actor) → slice_get q i ≡ Some b → b.due ≡ a.due → HasNotes b → ((j : ℕ) (c : Actor) → slice_get q j ≡ Some c → HasNotes c → IsDueAt p j c.due)
    → IsNext p i a → IsNext q i b
next_beside p q i a b there due has back n = record { there = there; unfinished = has; least = least }
  where
    least : (j : ℕ) (c : Actor) → slice_get q j ≡ Some c → HasNotes c → (b.due < c.due) ⊎ ((b.due ≡ c.due) × (i ≤ j))
    least j c e some =
        let r = back j c e some in
        ⊎_elim (λ lt. inl (omega (arith, lt, due, r.2))) (λ same. inr (due ∙ same.0 ∙ r.2, same.1)) (n.least j r.0 r.1 r.3)

pub one_next : (p q : List Actor) (i j : ℕ) (a b : Actor) → IsNext p i a → IsNext q j b → IsDueAt p j b.due → IsDueAt q i a.due → i ≡ j
one_next p q i j a b n k x y = by_cases x.0.due y.0.due (n.least j x.0 x.1 x.3) (k.least i y.0 y.1 y.3) x.2 y.2
  where
    by_cases : (xd yd : ℕ) → (a.due < xd) ⊎ ((a.due ≡ xd) × (i ≤ j)) → (b.due < yd) ⊎ ((b.due ≡ yd) × (j ≤ i)) → xd ≡ b.due → yd ≡ a.due → i ≡ j
    by_cases xd yd (inl l) (inl m) e f = let no_way : ⊥ = omega (arith, l, m, e, f) in absurd no_way
    by_cases xd yd (inl l) (inr m) e f = let no_way : ⊥ = omega (arith, l, m.0, e, f) in absurd no_way
    by_cases xd yd (inr l) (inl m) e f = let no_way : ⊥ = omega (arith, l.0, m, e, f) in absurd no_way
    by_cases xd yd (inr l) (inr m) e f = omega (arith, l.1, m.1)
