-- Counts of bits: those of the definitions are the ones of Rust's methods.
use Rattle.std.proofs.Common.{◌≡◌, ℕ, zero, suc, ◌+◌, ◌/◌, ◌%◌, ◌^◌, ◌<◌, cond, eqb, List, [], ◌∷◌, ◌++◌, length, refl, sym, ◌∙◌, ap, subst, inl, inr, arith}
use mathlib.Core.List.{reverse, reverse-cons}
use Rattle.std.proofs.lemmas.List.{length-reverse}
use lib.Count.{count_leading_zeros, count_trailing_zeros, ones, under, ones_step, leading_of_zero, leading_top}
use Rattle.std.specs.List.{prefix_len}
use Rattle.std.proofs.lemmas.List.Sums.{sum_by-cons}
use Rattle.std.proofs.lemmas.Bool.{cases_lt}
use Rattle.std.proofs.lemmas.Bool.Decides.{nat_tests}
use Rattle.std.proofs.Math.Nat.{pow-suc}
use Rattle.wa_ops.specs.Integers.{bits_of, iclz, ictz, ipopcnt}

counts_zero : (b k : ℕ) → cond (eqb b 0) (1 + k) 0 ≡ under b k
counts_zero zero k = omega arith
counts_zero (suc b) k = grind (arith, nat_tests)

pub ictz_is : (N i : ℕ) → ictz N i ≡ count_trailing_zeros N i
unfolding bits_of count_trailing_zeros
ictz_is zero i = refl
ictz_is (suc N) i =
    ap (λ (k : ℕ). cond (eqb (i % 2) 0) (1 + k) 0) (ictz_is N (i / 2))
    ∙ counts_zero (i % 2) (count_trailing_zeros N (i / 2))

pub half_below : (N i : ℕ) → i < 2 ^ suc N → i / 2 < 2 ^ N
half_below N i h = omega (arith, pow-suc 2 N)

pub ipopcnt_is : (N i : ℕ) → i < 2 ^ N → ipopcnt N i ≡ ones i
unfolding bits_of
ipopcnt_is zero i h = let e : i ≡ 0 = omega arith in subst (λ (n : ℕ). 0 ≡ ones n) (sym e) (unfold ones in refl)
ipopcnt_is (suc N) i h =
    sum_by-cons (λ (x : ℕ). x) (i % 2) (bits_of N (i / 2))
    ∙ ap (λ (k : ℕ). i % 2 + k) (ipopcnt_is N (i / 2) (half_below N i h))
    ∙ sym (ones_step i)

length-bits_of : (N i : ℕ) → length (bits_of N i) ≡ N
unfolding bits_of
length-bits_of zero i = refl
length-bits_of (suc N) i = ap suc (length-bits_of N (i / 2))

-- one more bit behind a 1 doesn't count
stays : (xs : List ℕ) (b : ℕ) → prefix_len (λ x. eqb x 0) xs < length xs
    → prefix_len (λ x. eqb x 0) (xs ++ b ∷ []) ≡ prefix_len (λ x. eqb x 0) xs
stays [] b h = absurd (omega arith)
stays (zero ∷ xs) b h = ap (λ (k : ℕ). 1 + k) (stays xs b (omega arith))
stays (suc x ∷ xs) b h = grind (arith, nat_tests)

-- one more bit behind zeros alone
goes_on : (xs : List ℕ) (b : ℕ) → prefix_len (λ x. eqb x 0) xs ≡ length xs
    → prefix_len (λ x. eqb x 0) (xs ++ b ∷ []) ≡ length xs + under b 0
goes_on [] b h = counts_zero b 0 ∙ omega arith
goes_on (zero ∷ xs) b h =
    let e : prefix_len (λ x. eqb x 0) (xs ++ b ∷ []) ≡ length xs + under b 0 = goes_on xs b (omega arith) in omega arith
goes_on (suc x ∷ xs) b h = absurd (grind (arith, nat_tests))

leading_below : (N a : ℕ) → 0 < a → a < 2 ^ N → count_leading_zeros N a < N
leading_below N a p h = let t = leading_top N a p h in omega (arith, t.1)

pub iclz_is : (N i : ℕ) → i < 2 ^ N → iclz N i ≡ count_leading_zeros N i
unfolding bits_of count_leading_zeros
iclz_is zero i h = refl
iclz_is (suc N) i h = ap (prefix_len (λ x. eqb x 0)) (reverse-cons (i % 2) (bits_of N (i / 2))) ∙ top i h (iclz_is N (i / 2) (half_below N i h))
  where
    size : (k : ℕ) → length (reverse (bits_of N k)) ≡ N
    size k = length-reverse (bits_of N k) ∙ length-bits_of N k

    all_zero : (b k : ℕ) → prefix_len (λ x. eqb x 0) (reverse (bits_of N k)) ≡ N
        → prefix_len (λ x. eqb x 0) (reverse (bits_of N k) ++ b ∷ []) ≡ N + under b 0
    all_zero b k e = goes_on (reverse (bits_of N k)) b (e ∙ sym (size k)) ∙ ap (λ (n : ℕ). n + under b 0) (size k)

    top : (n : ℕ) → n < 2 ^ suc N → prefix_len (λ x. eqb x 0) (reverse (bits_of N (n / 2))) ≡ count_leading_zeros N (n / 2)
        → prefix_len (λ x. eqb x 0) (reverse (bits_of N (n / 2)) ++ n % 2 ∷ []) ≡ count_leading_zeros (suc N) n
    top zero p e = all_zero 0 0 (e ∙ leading_of_zero N) ∙ omega arith
    top (suc n) p e =
        elim (cases_lt 0 (suc n / 2)) [
          | inl above ↦
              stays (reverse (bits_of N (suc n / 2))) (suc n % 2)
              (subst (λ (m : ℕ). prefix_len (λ x. eqb x 0) (reverse (bits_of N (suc n / 2))) < m) (sym (size (suc n / 2)))
              (subst (λ (m : ℕ). m < N) (sym e) (leading_below N (suc n / 2) above (half_below N (suc n) p)))) ∙ e
          | inr none ↦
              let zero_above : suc n / 2 ≡ 0 = omega arith in
              let all : count_leading_zeros N (suc n / 2) ≡ N = ap (count_leading_zeros N) zero_above ∙ leading_of_zero N in
              let one : suc n % 2 ≡ 1 = omega arith in
              all_zero (suc n % 2) (suc n / 2) (e ∙ all) ∙ ap (λ (b : ℕ). N + under b 0) one ∙ omega arith ∙ sym all
        ]
