-- The shortest spelling of signed numbers, byte by byte.
use Rattle.std.proofs.Common.{◌≡◌, ℕ, zero, suc, ◌+◌, ◌-◌, ◌*◌, ◌/◌, ◌%◌, ◌^◌, ◌<◌, ◌≤◌, ◌⊎◌, inl, inr, Ok, List, [], ◌∷◌, ◌++◌, min, nat_lt, refl, append_assoc, ap, sym, ◌∙◌, arith, length}
use Rattle.std.proofs.lemmas.Bool.{lt-ltb, le-ltb, le-leb, lt-leb, ltb-true, ltb-false, cases_lt}
use Rattle.std.proofs.Math.Pow.{pow_mono}
use Rattle.std.proofs.lemmas.List.{length_push}
use Rattle.leb_numbers.proofs.LebAnswers.{chosen, ok-injective}
use Rattle.leb_numbers.proofs.LebLemmas.{pow_split, pow_half}
use Rattle.leb_numbers.specs.Leb.{IsSigned, last_signed, signed_spelled, shortest_signed, IsLong, IsOneByte}

-- a number from 0 up to 63 is one byte
pub signed_low : (k bits n : ℕ) → n < 64 → n < 2 ^ (bits - 1) → signed_spelled (suc k) bits n ≡ n ∷ []
unfolding signed_spelled
signed_low k bits n h small = rw (lt-ltb _ _ (let m : n < min 64 (2 ^ (bits - 1)) = omega arith in m)) refl

-- so is one from -64 up to -1
pub signed_minus : (k bits n : ℕ) → 1 ≤ bits → 2 ^ (bits - 1) ≤ n → 2 ^ bits ≤ n + 64 → signed_spelled (suc k) bits n ≡ (n + 128 - 2 ^ bits) ∷ []
unfolding signed_spelled
signed_minus k bits n some h small =
    rw (le-ltb _ _ (let m : min 64 (2 ^ (bits - 1)) ≤ n = omega arith in m), le-leb _ _ small) refl

-- of any other the low seven bits come first
pub signed_high : (k bits n : ℕ) → min 64 (2 ^ (bits - 1)) ≤ n → n + 64 < 2 ^ bits → signed_spelled (suc k) bits n ≡ (n % 128 + 128) ∷ signed_spelled k (bits - 7) (n / 128)
unfolding signed_spelled
signed_high k bits n h large = rw (le-ltb _ _ h, lt-leb _ _ large) refl

-- the number above the low seven bits fits the bits that are left
pub high_fits : (bits n : ℕ) → 7 < bits → n < 2 ^ bits → n / 128 < 2 ^ (bits - 7)
high_fits bits n many h = let e : 2 ^ bits ≡ 128 * 2 ^ (bits - 7) = pow_split bits many in omega arith

-- a number that is not one byte has more than seven bits
pub high_many : (bits n : ℕ) → IsLong bits n → 1 ≤ bits → 7 < bits
high_many bits n long some = elim (cases_lt 7 bits) [
  | inl many ↦ many
  | inr few ↦ absurd (let low : 2 ^ (bits - 1) ≤ 2 ^ 6 = pow_mono {i = bits - 1} {j = 6} (omega arith) in let e : 2 ^ bits ≡ 2 * 2 ^ (bits - 1) = pow_half bits some in omega arith)
]

pub one_low : (bits n : ℕ) → n < 64 → n < 2 ^ (bits - 1) → IsOneByte bits n n
one_low bits n h small = record { byte = λ k. signed_low k bits n h small }

pub one_minus : (bits n b : ℕ) → 1 ≤ bits → 2 ^ (bits - 1) ≤ n → 2 ^ bits ≤ n + 64 → b + 2 ^ bits ≡ n + 128 → IsOneByte bits n b
one_minus bits n b some h small e =
    let is : n + 128 - 2 ^ bits ≡ b = omega arith in
    record { byte = λ k. signed_minus k bits n some h small ∙ ap (λ c. c ∷ []) is }

-- behind these bytes, the number's byte ends the spelling
pub signed_last : (text new whole : List ℕ) (width n b : ℕ) → length text < 10 → IsOneByte width n b → new ≡ text ++ b ∷ [] → text ++ signed_spelled (10 - length text) width n ≡ whole → new ≡ whole
signed_last text new whole width n b room one e before =
    let k : 10 - length text ≡ suc (9 - length text) = omega arith in
    e ∙ ap (λ s. text ++ s) (sym (ap (λ i. signed_spelled i width n) k ∙ one.byte _)) ∙ before

pub signed_more : (text new whole : List ℕ) (width n : ℕ) → length text < 10 → IsLong width n → new ≡ text ++ (n % 128 + 128) ∷ []
    → text ++ signed_spelled (10 - length text) width n ≡ whole → new ++ signed_spelled (10 - length new) (width - 7) (n / 128) ≡ whole
signed_more text new whole width n room long e before =
    let k : 10 - length text ≡ suc (9 - length text) = omega arith in
    let longer : length new ≡ length text + 1 = ap length e ∙ length_push text _ in
    let left : 10 - length new ≡ 9 - length text = omega arith in
    ap (λ i. new ++ signed_spelled i (width - 7) (n / 128)) left ∙ ap (λ s. s ++ signed_spelled (9 - length text) (width - 7) (n / 128)) e ∙ append_assoc text _ _
    ∙ ap (λ s. text ++ s) (sym (ap (λ i. signed_spelled i width n) k ∙ signed_high _ width n long.above_low long.below_minus)) ∙ before

pub ruleset signed_writing = (signed_last, signed_more, high_many, high_fits)

last_low : (bits b : ℕ) → b < 64 → b < 2 ^ (bits - 1) → last_signed bits b ≡ Ok b
last_low bits b h small = rw (lt-ltb _ _ h, lt-ltb _ _ small) refl

last_minus : (bits n b : ℕ) → 1 ≤ bits → 2 ^ (bits - 1) ≤ n → n < 2 ^ bits → 2 ^ bits ≤ n + 64 → b + 2 ^ bits ≡ n + 128 → last_signed bits b ≡ Ok n
last_minus bits n b some h fits small e =
    let twice = pow_half bits some in
    let high : 64 ≤ b = omega arith in
    let past : 128 ≤ b + 2 ^ (bits - 1) = omega (arith, twice) in
    let is : b + 2 ^ bits - 128 ≡ n = omega arith in
    rw (le-ltb _ _ high, le-ltb _ _ past) (ap Ok is)

-- what the bits' first byte is: the only one, or one of several
first_byte : (bits n : ℕ) → 1 ≤ bits → n < 2 ^ bits → IsLong bits n ⊎ ((b : ℕ) × (b < 128) × (last_signed bits b ≡ Ok n) × IsOneByte bits n b)
first_byte bits n some fits =
    let twice = pow_half bits some in
    elim (cases_lt n (min 64 (2 ^ (bits - 1)))) [
      | inl low ↦ inr (n, omega arith, last_low bits n (omega arith) (omega arith), one_low bits n (omega arith) (omega arith))
      | inr high ↦ elim (cases_lt (n + 64) (2 ^ bits)) [
        | inl large ↦ inl (record { above_low = high; below_minus = large })
        | inr small ↦
            let half : 2 ^ (bits - 1) ≤ n = omega (arith, twice) in
            let byte : n + 128 - 2 ^ bits + 2 ^ bits ≡ n + 128 = omega arith in
            inr (n + 128 - 2 ^ bits, omega arith, last_minus bits n _ some half fits small byte, one_minus bits n _ some half small byte)
      ]
    ]

-- the shortest spelling is one
signed_spells : (k bits n : ℕ) → 1 ≤ bits → bits ≤ 7 * suc k → n < 2 ^ bits → IsSigned bits (signed_spelled (suc k) bits n) n
signed_spells zero bits n some few fits = elim (first_byte bits n some fits) [
  | inl long ↦ absurd (let many = high_many bits n long some in omega (arith, many))
  | inr one ↦ rw (one.3.byte zero) (inl (one.1, refl, one.2))
]
signed_spells (suc k) bits n some few fits = elim (first_byte bits n some fits) [
  | inl long ↦
      let many : 7 < bits = high_many bits n long some in
      rw (signed_high (suc k) bits n long.above_low long.below_minus)
      (inr (omega arith, omega arith, many, n / 128, omega arith, signed_spells k (bits - 7) (n / 128) (omega arith) (omega arith) (high_fits bits n many fits)))
  | inr one ↦ rw (one.3.byte (suc k)) (inl (one.1, refl, one.2))
]

pub shortest_signed_spells : (bits n : ℕ) → 1 ≤ bits → bits ≤ 64 → n < 2 ^ bits → IsSigned bits (shortest_signed bits n) n
shortest_signed_spells bits n some few fits = signed_spells 9 bits n some (omega arith) fits

-- these bits take one byte, or more
one_or_long : (k bits n : ℕ) → (length (signed_spelled (suc k) bits n) ≡ 1) ⊎ IsLong bits n
unfolding signed_spelled
one_or_long k bits n = elim (cases_lt n (min 64 (2 ^ (bits - 1)))) [
  | inl low ↦ inl (rw (lt-ltb _ _ low) refl)
  | inr high ↦ elim (cases_lt (n + 64) (2 ^ bits)) [
    | inl large ↦ inr (record { above_low = high; below_minus = large })
    | inr small ↦ inl (rw (le-ltb _ _ high, le-leb _ _ small) refl)
  ]
]

-- what one byte spells doesn't take more
last_not_long : (bits n b : ℕ) → last_signed bits b ≡ Ok n → IsLong bits n → ⊥
last_not_long bits n b e long = elim (chosen (nat_lt b 64) _ _ _ e) [
  | inl low ↦ elim (chosen (nat_lt b (2 ^ (bits - 1))) _ _ _ low.1) [
    | inl small ↦ omega (arith, ok-injective b n _ refl small.1, ltb-true _ _ low.0, ltb-true _ _ small.0, long.above_low)
    | inr past ↦ cc
  ]
  | inr high ↦ elim (chosen (nat_lt (b + 2 ^ (bits - 1)) 128) _ _ _ high.1) [
    | inl past ↦ cc
    | inr sign ↦ omega (arith, ok-injective (b + 2 ^ bits - 128) n _ refl sign.1, ltb-false _ _ high.0, long.below_minus)
  ]
]

-- no spelling is shorter
signed_least : (k bits n : ℕ) (a : List ℕ) → IsSigned bits a n → length (signed_spelled k bits n) ≤ length a
unfolding signed_spelled
signed_least zero bits n a h = omega arith
signed_least (suc k) bits n [] h = absurd h
signed_least (suc k) bits n (b ∷ bs) (inl h) = elim (one_or_long k bits n) [
  | inl one ↦ omega (arith, one)
  | inr long ↦ absurd (last_not_long bits n b h.2 long)
]
signed_least (suc k) bits n (b ∷ bs) (inr h) = elim (one_or_long k bits n) [
  | inl one ↦ omega (arith, one)
  | inr long ↦
      let e : n / 128 ≡ h.3 = omega (arith, h.0, h.1, h.4) in
      let more = signed_least k (bits - 7) h.3 bs h.5 in
      rw (signed_high k bits n long.above_low long.below_minus, e) (omega (arith, more))
]

pub shortest_signed_least : (bits n : ℕ) (a : List ℕ) → IsSigned bits a n → length (shortest_signed bits n) ≤ length a
shortest_signed_least bits n a h = signed_least 10 bits n a h
