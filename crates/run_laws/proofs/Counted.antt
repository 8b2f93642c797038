-- What each move of a machine keeps, its runs keep, where facts speak of a number that events move onward.
use Rattle.std.proofs.Common.{◌≡◌, ℕ, zero, suc, ◌-◌, Bool, true, false, cond, ltb, List, [], ◌∷◌, ◌++◌, take, Some, All, refl, subst}
use Rattle.std.specs.Prelude.{slice_get}
use Rattle.std.proofs.lemmas.List.Elements.{All-nil, All-cons}
use Rattle.wa_model.specs.Machine.{Turn, stops, goes, Ran, after, still, pay, run_with, run}

module _ {E : Type 0} (onward : E → ℕ → ℕ) (P : ℕ → E → Type 0) where
  -- the number behind events
  abbrev pub behind_all : ℕ → List E → ℕ
  behind_all k [] = k
  behind_all k (x ∷ xs) = behind_all (onward x k) xs

  -- each event has the fact at its number
  abbrev pub AllAt : ℕ → List E → Type 0
  AllAt k [] = Unit {0}
  AllAt k (x ∷ xs) = P k x × AllAt (onward x k) xs

  pub behind_joined : (k : ℕ) (xs ys : List E) → behind_all (behind_all k xs) ys ≡ behind_all k (xs ++ ys)
  behind_joined k [] ys = refl
  behind_joined k (x ∷ xs) ys = behind_joined (onward x k) xs ys

  pub joined_at : (k : ℕ) (xs ys : List E) → AllAt k xs → AllAt (behind_all k xs) ys → AllAt k (xs ++ ys)
  joined_at k [] ys a b = b
  joined_at k (x ∷ xs) ys a b = (a.0, joined_at (onward x k) xs ys a.1 b)

  -- at each place
  pub at_place : (k : ℕ) (xs : List E) (i : ℕ) (x : E) → AllAt k xs → slice_get xs i ≡ Some x → P (behind_all k (take i xs)) x
  at_place k [] i x a e = cc
  at_place k (y ∷ xs) zero x a e = subst (P k) (same e) a.0
    where
      same : Some y ≡ Some x → y ≡ x
      same e = cc
  at_place k (y ∷ xs) (suc i) x a e = at_place (onward y k) xs i x a.1 e

  -- facts that follow whatever the number
  pub all_of : (Q : E → Type 0) → ((k : ℕ) (x : E) → P k x → Q x) → (k : ℕ) (xs : List E) → AllAt k xs → All Q xs
  all_of Q f k [] a = All-nil Q
  all_of Q f k (x ∷ xs) a = All-cons Q x xs (f k x a.0) (all_of Q f (onward x k) xs a.1)

module _ {S E : Type 0} (next : S → Turn S E) (onward : E → ℕ → ℕ) (P : ℕ → E → Type 0) (Inv : ℕ → S → Type 0) where
  abbrev pub TurnCounts : ℕ → Turn S E → Type 0
  TurnCounts k stops = Unit {0}
  TurnCounts k (goes j es t) = AllAt onward P k es × Inv (behind_all onward P k es) t

  abbrev pub RanCounts : ℕ → Ran S E → Type 0
  RanCounts k r = AllAt onward P k r.events × Inv (behind_all onward P k r.events) r.last

  pay_counts : (on : ℕ → S → Ran S E) (n : ℕ) (s : S) (k : ℕ) (t : Turn S E) → ((n k : ℕ) (u : S) → Inv k u → RanCounts k (on n u)) → Inv k s → TurnCounts k t → RanCounts k (pay on n s t)
  pay_counts on n s k stops each h c = (tt, h)
  pay_counts on n s k (goes j es t) each h c = by_cost (ltb j n)
    where
      by_cost : (b : Bool) → RanCounts k (cond b (after es (on (n - suc j) t)) (still s))
      by_cost true =
          let r = each (n - suc j) (behind_all onward P k es) t c.1 in
          (joined_at onward P k es (on (n - suc j) t).events c.0 r.0, subst (λ i. Inv i (on (n - suc j) t).last) (behind_joined onward P k es (on (n - suc j) t).events) r.1)
      by_cost false = (tt, h)

  pub run_counts : ((k : ℕ) (s : S) → Inv k s → TurnCounts k (next s)) → (count n k : ℕ) (s : S) → Inv k s → RanCounts k (run_with next count n s)
  run_counts each zero n k s h = (tt, h)
  run_counts each (suc count) n k s h = pay_counts (run_with next count) n s k (next s) (run_counts each count) h (each k s h)

  -- a run with events before it
  pub after_counts : ((k : ℕ) (s : S) → Inv k s → TurnCounts k (next s)) → (n k : ℕ) (r : Ran S E) → RanCounts k r → AllAt onward P k (after r.events (run next n r.last)).events
  after_counts each n k r h = joined_at onward P k r.events (run next n r.last).events h.0 (run_counts each n n (behind_all onward P k r.events) r.last h.1).0
