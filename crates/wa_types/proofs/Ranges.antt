-- A test that all numbers of a range pass, which is computed.
use Rattle.std.proofs.Common.{◌≡◌, ℕ, zero, suc, ◌+◌, ◌<◌, ◌≤◌, inl, inr, Bool, true, false, refl, subst, arith, ◌&&◌}
use Rattle.std.proofs.Math.Nat.{eq-or-lt_of_le}

-- a test that so many numbers from this one on pass
unfoldable pub all_from : (ℕ → Bool) → (low n : ℕ) → Bool
all_from p low zero = true
all_from p low (suc n) = p low && all_from p (suc low) n

first_holds : (a b : Bool) → (a && b) ≡ true → a ≡ true
first_holds true b e = refl
first_holds false b e = cc

rest_holds : (a b : Bool) → (a && b) ≡ true → b ≡ true
rest_holds true b e = e
rest_holds false b e = cc

-- each number of the range passes it
pub passes : (p : ℕ → Bool) (low n k : ℕ) → low ≤ k → k < low + n → all_from p low n ≡ true → p k ≡ true
unfolding all_from
passes p low zero k h l e = absurd (omega (arith, h, l))
passes p low (suc n) k h l e = elim (eq-or-lt_of_le {n = low} {m = k} h) [
  | inl same ↦ subst (λ z. p z ≡ true) same (first_holds (p low) (all_from p (suc low) n) e)
  | inr less ↦ passes p (suc low) n k less (omega (arith, l)) (rest_holds (p low) (all_from p (suc low) n) e)
]
