-- Turns of a world of two actors, without detaches and devices.
use Rattle.std.proofs.Common.{arith, ◌≡◌, ◌<◌, ◌≤◌, ◌⊎◌, inl, inr, ℕ, zero, suc, ◌+◌, List, [], ◌∷◌, Some, refl, sym, ap, subst, ⊎_elim}
use Rattle.std.specs.Prelude.{slice_get, slice_set}
use Rattle.std.proofs.lemmas.Bool.{cases_lt}
use Rattle.wa_model.specs.Outside.{AnswerLine}
use Rattle.wa_model.specs.Plan.{Outcome}
use Rattle.world_model.specs.World.{Actor, CallsMeet, HasNotes, IsNext, Plays, Program, behind_turn, put_off, turn_lines, turn_of}

some_is : (x y : Actor) → Some x ≡ Some y → x ≡ y
some_is x y e = cc

same_due : (i j : ℕ) (x y : Actor) → i ≡ j → Some x ≡ Some y → (x.due < y.due) ⊎ ((x.due ≡ y.due) × (i ≤ j))
same_due i j x y ij e = inr (ap (λ (c : Actor). c.due) (some_is x y e), omega (arith, ij))

pub first_next : (a b : Actor) → HasNotes a → (HasNotes b → a.due ≤ b.due) → IsNext (a ∷ b ∷ []) 0 a
first_next a b has sooner = record { there = refl; unfinished = has; least = least }
  where
    least : (j : ℕ) (c : Actor) → slice_get (a ∷ b ∷ []) j ≡ Some c → HasNotes c → (a.due < c.due) ⊎ ((a.due ≡ c.due) × (0 ≤ j))
    least zero c e h = same_due 0 0 a c refl e
    least (suc zero) c e h =
        let z : b ≡ c = some_is b c e in
        let le : a.due ≤ c.due = subst (λ (x : Actor). a.due ≤ x.due) z (sooner (subst HasNotes (sym z) h)) in
        ⊎_elim (λ lt. inl lt) (λ ge. inr (omega (arith, le, ge), omega arith)) (cases_lt a.due c.due)
    least (suc (suc j)) c e h = cc

pub second_next : (a b : Actor) → HasNotes b → (HasNotes a → b.due < a.due) → IsNext (a ∷ b ∷ []) 1 b
second_next a b has sooner = record { there = refl; unfinished = has; least = least }
  where
    least : (j : ℕ) (c : Actor) → slice_get (a ∷ b ∷ []) j ≡ Some c → HasNotes c → (b.due < c.due) ⊎ ((b.due ≡ c.due) × (1 ≤ j))
    least zero c e h =
        let z : a ≡ c = some_is a c e in
        inl (subst (λ (x : Actor). b.due < x.due) z (sooner (subst HasNotes (sym z) h)))
    least (suc zero) c e h = same_due 1 1 b c refl e
    least (suc (suc j)) c e h = cc

-- an actor behind its turn
abbrev pub gone_on : Actor → List Outcome → List AnswerLine → Actor
gone_on a os lines = record { due = a.due + put_off (turn_of a.notes); notes = behind_turn a.notes; outcomes = os; answers = lines }

pub one_turn : (ps : List Program) (n i : ℕ) (acts : List Actor) (a : Actor) (w : Program) (os : List Outcome) (lines : List AnswerLine) → IsNext acts i a → slice_get ps i ≡ Some w
    → CallsMeet w (turn_of a.notes) a.outcomes a.answers [] os lines [] → Plays ps [] n acts [] (turn_lines i w a) (slice_set acts i (gone_on a os lines)) []
one_turn ps n i acts a w os lines next program calls =
    record { i = i; a = a; w = w; next = next; program = program; outcomes = os; answers = lines; calls = calls; made = refl; after = refl }
