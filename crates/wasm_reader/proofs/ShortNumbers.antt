-- How long the shortest spelling of a number is.
use Rattle.std.proofs.Common.{◌≡◌, ℕ, zero, suc, ◌+◌, ◌/◌, ◌%◌, ◌<◌, ◌≤◌, ◌⊎◌, inl, inr, List, [], ◌∷◌, length, Bool, true, false, cond, nat_lt, refl, arith}
use Rattle.std.proofs.lemmas.Bool.{lt-ltb, le-ltb, ltb-true, ltb-false}
use Rattle.leb_numbers.proofs.UnsignedSpelling.{shortest_least}
use Rattle.leb_numbers.specs.Leb.{IsUnsigned, spelled, shortest}

pub by_test : (b : Bool) → (b ≡ true) ⊎ (b ≡ false)
by_test true = inl refl
by_test false = inr refl

-- in one byte, where the number is small
pub spelled_small : (k n : ℕ) → n < 128 → length (spelled k n) ≤ 1
unfolding spelled
spelled_small zero n h = omega arith
spelled_small (suc k) n h = rw (lt-ltb n 128 h) (omega arith)

pub spelled_big : (k n : ℕ) → 128 ≤ n → length (spelled (suc k) n) ≡ suc (length (spelled k (n / 128)))
unfolding spelled
spelled_big k n h = rw (le-ltb n 128 h) refl

pub number_short : (n : ℕ) (a : List ℕ) → IsUnsigned 32 a n → length (shortest n) ≤ length a
number_short n a h = shortest_least 32 n a h

-- the shortest spelling of a smaller number isn't longer
pub spelled_some : (k n : ℕ) → 1 ≤ length (spelled (suc k) n)
unfolding spelled
spelled_some k n = elim (nat_lt n 128) as (λ t. 1 ≤ length (cond t (n ∷ []) ((n % 128 + 128) ∷ spelled k (n / 128)))) [ true ↦ omega arith | false ↦ omega arith ]

spelled_rises : (k m n : ℕ) → m ≤ n → length (spelled k m) ≤ length (spelled k n)
unfolding spelled
spelled_rises zero m n h = omega arith
spelled_rises (suc k) m n h = elim (by_test (nat_lt m 128)) [
  | inl small ↦ omega (arith, spelled_small (suc k) m (ltb-true m 128 small), spelled_some k n)
  | inr big ↦
      let l = ltb-false m 128 big in
      omega (arith, spelled_big k m l, spelled_big k n (omega (arith, l, h)), spelled_rises k (m / 128) (n / 128) (omega (arith, h)))
]

pub shortest_rises : (m n : ℕ) → m ≤ n → length (shortest m) ≤ length (shortest n)
shortest_rises m n h = spelled_rises 10 m n h
