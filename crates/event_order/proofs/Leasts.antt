-- The least pair of due tick and number, with one more program, and in a world.
use Rattle.std.proofs.Common.{arith, ◌≡◌, ◌<◌, ◌≤◌, ◌⊎◌, inl, inr, ℕ, suc, zero, List, [], ◌∷◌, ◌++◌, length, get_or, map, Option, Some, None, slice_get, refl, sym, ap, ◌∙◌}
use Rattle.std.specs.Option.{option_map}
use Rattle.std.proofs.lemmas.Bool.{cases_lt}
use Rattle.std.proofs.lemmas.Option.{slice_get-map, slice_get-get_or, slice_get_within}
use Rattle.wa_model.specs.Blocking.{Note}
use Rattle.world_model.specs.World.{Actor, HasNotes, IsNext}
use Rattle.event_order.specs.Dues.{IsLeast, HaveEnded, unless_ended, due_of}
use Rattle.event_order.specs.Laws.{LeastIsNext, EndedIsOver}

module _ {X : Type 0} where
  pushed : (xs : List X) (x y : X) (j : ℕ) → slice_get (xs ++ x ∷ []) j ≡ Some y → (slice_get xs j ≡ Some y) ⊎ ((j ≡ length xs) × (x ≡ y))
  pushed [] x y zero e = inr (refl, cc)
  pushed [] x y (suc j) e = absurd cc
  pushed (z ∷ xs) x y zero e = inl e
  pushed (z ∷ xs) x y (suc j) e = elim (pushed xs x y j e) [ inl there ↦ inl there | inr last ↦ inr (ap suc last.0, last.1) ]

  kept : (xs : List X) (x y : X) (j : ℕ) → slice_get xs j ≡ Some y → slice_get (xs ++ x ∷ []) j ≡ Some y
  kept [] x y j e = absurd cc
  kept (z ∷ xs) x y zero e = e
  kept (z ∷ xs) x y (suc j) e = kept xs x y j e

  last : (xs : List X) (x : X) → slice_get (xs ++ x ∷ []) (length xs) ≡ Some x
  last [] x = refl
  last (z ∷ xs) x = last xs x

-- ---- one more program

module _ (xs : List (Option ℕ)) where
  pub ended_more : HaveEnded xs → HaveEnded (xs ++ None ∷ [])
  ended_more ended j tick e = elim (pushed xs None (Some tick) j e) [ inl there ↦ ended j tick there | inr more ↦ cc ]

  pub least_ended : (i due : ℕ) → IsLeast xs i due → IsLeast (xs ++ None ∷ []) i due
  least_ended i due l =
      record {
        there = kept xs None (Some due) i l.there;
        least = λ j tick e. elim (pushed xs None (Some tick) j e) [ inl there ↦ l.least j tick there | inr more ↦ absurd cc ];
      }

  pub least_first : (due : ℕ) → HaveEnded xs → IsLeast (xs ++ Some due ∷ []) (length xs) due
  least_first due ended =
      record {
        there = last xs (Some due);
        least = λ j tick e. elim (pushed xs (Some due) (Some tick) j e) [ inl there ↦ absurd (ended j tick there) | inr more ↦ inr (some_is due tick more.1, omega (arith, more.0)) ];
      }
    where
      some_is : (a b : ℕ) → Some a ≡ Some b → a ≡ b
      some_is a b e = cc

  pub least_sooner : (i due new : ℕ) → IsLeast xs i due → new < due → IsLeast (xs ++ Some new ∷ []) (length xs) new
  least_sooner i due new l sooner =
      record {
        there = last xs (Some new);
        least = λ j tick e. elim (pushed xs (Some new) (Some tick) j e) [ inl there ↦ inl (before tick (l.least j tick there)) | inr more ↦ inr (some_is new tick more.1, omega (arith, more.0)) ];
      }
    where
      some_is : (a b : ℕ) → Some a ≡ Some b → a ≡ b
      some_is a b e = cc

      before : {P : Type 0} (tick : ℕ) → (due < tick) ⊎ ((due ≡ tick) × P) → new < tick
      before tick (inl less) = omega (arith, less, sooner)
      before tick (inr same) = omega (arith, same.0, sooner)

  pub least_later : (i due new : ℕ) → IsLeast xs i due → due ≤ new → IsLeast (xs ++ Some new ∷ []) i due
  least_later i due new l later =
      record {
        there = kept xs (Some new) (Some due) i l.there;
        least = λ j tick e. elim (pushed xs (Some new) (Some tick) j e) [ inl there ↦ l.least j tick there | inr more ↦ behind j tick more.0 (some_is new tick more.1) ];
      }
    where
      some_is : (a b : ℕ) → Some a ≡ Some b → a ≡ b
      some_is a b e = cc

      within : i < length xs
      within = slice_get_within xs i (Some due) l.there

      behind : (j tick : ℕ) → j ≡ length xs → new ≡ tick → (due < tick) ⊎ ((due ≡ tick) × (i ≤ j))
      behind j tick at is = elim (cases_lt due tick) [ inl less ↦ inl less | inr more ↦ inr (omega (arith, more, later, is), omega (arith, at, within)) ]

-- ---- in a world

due_is : (due tick : ℕ) (notes : List Note) → unless_ended due notes ≡ Some tick → (0 < length notes) × (due ≡ tick)
due_is due tick [] e = absurd cc
due_is due tick (x ∷ xs) e = (omega arith, cc)

is_due : (due : ℕ) (notes : List Note) → 0 < length notes → unless_ended due notes ≡ Some due
is_due due [] some = absurd (omega (arith, some))
is_due due (x ∷ xs) some = refl

at_place : (actors : List Actor) (j : ℕ) (b : Actor) → slice_get actors j ≡ Some b → HasNotes b → slice_get (map due_of actors) j ≡ Some (Some b.due)
at_place actors j b there some =
    slice_get-map due_of actors j ∙ ap (option_map due_of) there ∙ ap (λ (o : Option ℕ). Some o) (is_due b.due b.notes some)

pub least_next : LeastIsNext
least_next actors i due l = of_actor (slice_get actors i) refl where
  of_actor : (o : Option Actor) → slice_get actors i ≡ o → (a : Actor) × IsNext actors i a × (a.due ≡ due)
  of_actor None e =
      let none : None ≡ Some (Some due) = sym (slice_get-map due_of actors i ∙ ap (option_map due_of) e) ∙ l.there in
      absurd cc
  of_actor (Some a) e =
      let is : Some (due_of a) ≡ Some (Some due) = sym (slice_get-map due_of actors i ∙ ap (option_map due_of) e) ∙ l.there in
      let facts = due_is a.due due a.notes cc in
      let same : a.due ≡ due = facts.1 in (
        a,
        record {
          there = e;
          unfinished = facts.0;
          least = λ j b there some. elim (l.least j b.due (at_place actors j b there some)) [ inl less ↦ inl (omega (arith, less, same)) | inr more ↦ inr (omega (arith, more.0, same), more.1) ];
        },
        same,
      )

pub ended_over : EndedIsOver
ended_over actors ended k d within = none (get_or actors k d).notes (λ some. ended k _ (at_place actors k (get_or actors k d) (slice_get-get_or actors k d within) some)) where
  none : (notes : List Note) → ((0 < length notes) → ⊥) → notes ≡ []
  none [] never = refl
  none (x ∷ xs) never = absurd (never (omega arith))
