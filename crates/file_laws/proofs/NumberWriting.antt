-- The shortest spelling of a number spells it.
use Rattle.std.proofs.Common.{◌≡◌, ℕ, zero, suc, ◌+◌, ◌-◌, ◌*◌, ◌/◌, ◌%◌, ◌^◌, ◌<◌, ◌≤◌, inl, inr, [], ◌∷◌, Ok, refl, ap, ◌∙◌, arith, min}
use Rattle.std.proofs.Math.Nat.{pow-suc}
use Rattle.std.proofs.Math.Pow.{pow_mono}
use Rattle.std.proofs.lemmas.Nat.{pow-add}
use Rattle.std.proofs.lemmas.Bool.{lt-ltb, le-ltb, le-leb, lt-leb, cases_lt}
use Rattle.leb_numbers.specs.Leb.{IsUnsigned, IsSigned, last_signed, spelled, shortest, signed_spelled, shortest_signed}

spelled_low : (k n : ℕ) → n < 128 → spelled (suc k) n ≡ n ∷ []
unfolding spelled
spelled_low k n h = rw (lt-ltb _ _ h) refl

spelled_high : (k n : ℕ) → 128 ≤ n → spelled (suc k) n ≡ (n % 128 + 128) ∷ spelled k (n / 128)
unfolding spelled
spelled_high k n h = rw (le-ltb _ _ h) refl

power_below : (k n : ℕ) → n < 128 * 128 ^ suc k → n / 128 < 128 * 128 ^ k
power_below k n h = omega (arith, pow-suc 128 k)

pow_split : (bits : ℕ) → 7 < bits → 2 ^ bits ≡ 128 * 2 ^ (bits - 7)
pow_split bits h = let e : bits ≡ 7 + (bits - 7) = omega arith in ap (λ k. 2 ^ k) e ∙ pow-add 2 7 (bits - 7)

pow_half : (bits : ℕ) → 1 ≤ bits → 2 ^ bits ≡ 2 * 2 ^ (bits - 1)
pow_half bits h = let e : bits ≡ 1 + (bits - 1) = omega arith in ap (λ k. 2 ^ k) e ∙ pow-add 2 1 (bits - 1)

power_split : (bits n : ℕ) → 128 ≤ n → n < 2 ^ bits → (7 < bits) × (n / 128 < 2 ^ (bits - 7))
power_split bits n h small = elim (cases_lt 7 bits) [
  | inl many ↦ let e : 2 ^ bits ≡ 128 * 2 ^ (bits - 7) = pow_split bits many in (many, omega arith)
  | inr few ↦ absurd (let low : 2 ^ bits ≤ 2 ^ 7 = pow_mono {i = bits} {j = 7} few in omega arith)
]

spelled_spells : (k bits n : ℕ) → n < 128 * 128 ^ k → n < 2 ^ bits → IsUnsigned bits (spelled (suc k) n) n
spelled_spells zero bits n h small = rw (spelled_low zero n (omega arith)) (inl (omega arith, small, refl, refl))
spelled_spells (suc k) bits n h small = elim (cases_lt n 128) [
  | inl low ↦ rw (spelled_low (suc k) n low) (inl (low, small, refl, refl))
  | inr high ↦
      let split = power_split bits n high small in
      rw (spelled_high (suc k) n high) (inr (omega arith, omega arith, split.0, n / 128, omega arith, spelled_spells k (bits - 7) (n / 128) (power_below k n h) split.1))
]

pub shortest_spells : (n : ℕ) → n < 2 ^ 32 → IsUnsigned 32 (shortest n) n
shortest_spells n h = spelled_spells 9 32 n (omega arith) h

last_low : (bits n : ℕ) → n < 64 → n < 2 ^ (bits - 1) → last_signed bits n ≡ Ok n
last_low bits n h low = rw (lt-ltb _ _ h, lt-ltb _ _ low) refl

last_high : (bits n b : ℕ) → 64 ≤ b → 128 ≤ b + 2 ^ (bits - 1) → b + 2 ^ bits - 128 ≡ n → last_signed bits b ≡ Ok n
last_high bits n b h sign e = rw (le-ltb _ _ h, le-ltb _ _ sign, e) refl

-- the last byte, or more
signed_low : (k bits n : ℕ) → n < min 64 (2 ^ (bits - 1)) → signed_spelled (suc k) bits n ≡ n ∷ []
unfolding signed_spelled
signed_low k bits n h = rw (lt-ltb _ _ h) refl

signed_top : (k bits n : ℕ) → min 64 (2 ^ (bits - 1)) ≤ n → 2 ^ bits ≤ n + 64 → signed_spelled (suc k) bits n ≡ (n + 128 - 2 ^ bits) ∷ []
unfolding signed_spelled
signed_top k bits n h t = rw (le-ltb _ _ h, le-leb _ _ t) refl

signed_more : (k bits n : ℕ) → min 64 (2 ^ (bits - 1)) ≤ n → n + 64 < 2 ^ bits → signed_spelled (suc k) bits n ≡ (n % 128 + 128) ∷ signed_spelled k (bits - 7) (n / 128)
unfolding signed_spelled
signed_more k bits n h t = rw (le-ltb _ _ h, lt-leb _ _ t) refl

many_bits : (bits n : ℕ) → 1 ≤ bits → min 64 (2 ^ (bits - 1)) ≤ n → n + 64 < 2 ^ bits → 7 < bits
many_bits bits n some h t = elim (cases_lt 7 bits) [
  | inl m ↦ m
  | inr few ↦
      let half : 2 ^ bits ≡ 2 * 2 ^ (bits - 1) = pow_half bits some in
      let low : 2 ^ (bits - 1) ≤ 2 ^ 6 = pow_mono {i = bits - 1} {j = 6} (omega arith) in
      absurd (omega (arith, half, low, h, t))
]

signed_step : (k bits n : ℕ) → 1 ≤ bits → n < 2 ^ bits → (7 < bits → n / 128 < 2 ^ (bits - 7) → IsSigned (bits - 7) (signed_spelled k (bits - 7) (n / 128)) (n / 128))
    → IsSigned bits (signed_spelled (suc k) bits n) n
signed_step k bits n some small more =
    let half : 2 ^ bits ≡ 2 * 2 ^ (bits - 1) = pow_half bits some in
    elim (cases_lt n (min 64 (2 ^ (bits - 1)))) [
      | inl low ↦ rw (signed_low k bits n low) (inl (omega (arith, low), refl, last_low bits n (omega (arith, low)) (omega (arith, low))))
      | inr h ↦ elim (cases_lt (n + 64) (2 ^ bits)) [
        | inr t ↦
            rw (signed_top k bits n h t)
            (inl (omega (arith, small, t), refl, last_high bits n (n + 128 - 2 ^ bits) (omega (arith, t)) (omega (arith, half, h, t, small)) (omega (arith, t))))
        | inl t ↦
            let many = many_bits bits n some h t in
            let split : 2 ^ bits ≡ 128 * 2 ^ (bits - 7) = pow_split bits many in
            rw (signed_more k bits n h t) (inr (omega arith, omega arith, many, n / 128, omega arith, more many (omega (arith, split, small))))
      ]
    ]

signed_spells : (k bits n : ℕ) → 1 ≤ bits → bits ≤ 7 * suc k → n < 2 ^ bits → IsSigned bits (signed_spelled (suc k) bits n) n
signed_spells zero bits n some fits small = signed_step zero bits n some small (λ m s. absurd (omega (arith, fits, m)))
signed_spells (suc k) bits n some fits small = signed_step (suc k) bits n some small (λ m s. signed_spells k (bits - 7) (n / 128) (omega (arith, m)) (omega (arith, fits)) s)

pub shortest_signed_spells : (bits n : ℕ) → 1 ≤ bits → bits ≤ 64 → n < 2 ^ bits → IsSigned bits (shortest_signed bits n) n
shortest_signed_spells bits n some fits small = signed_spells 9 bits n some (omega arith) small
