-- The shortest spelling of unsigned numbers, byte by byte.
use Rattle.std.proofs.Common.{◌≡◌, ℕ, zero, suc, ◌+◌, ◌-◌, ◌*◌, ◌/◌, ◌%◌, ◌^◌, ◌<◌, ◌≤◌, inl, inr, List, [], ◌∷◌, ◌++◌, refl, append_assoc, ap, sym, ◌∙◌, arith, length, length-append}
use Rattle.std.proofs.Math.Nat.{pow-suc}
use Rattle.std.proofs.Math.Pow.{pow_mono}
use Rattle.std.proofs.lemmas.Bool.{lt-ltb, le-ltb, cases_lt}
use Rattle.leb_numbers.proofs.LebLemmas.{pow_split}
use Rattle.leb_numbers.specs.Leb.{IsUnsigned, spelled, shortest}

pub spelled_low : (k n : ℕ) → n < 128 → spelled (suc k) n ≡ n ∷ []
unfolding spelled
spelled_low k n h = rw (lt-ltb _ _ h) refl

pub spelled_high : (k n : ℕ) → 128 ≤ n → spelled (suc k) n ≡ (n % 128 + 128) ∷ spelled k (n / 128)
unfolding spelled
spelled_high k n h = rw (le-ltb _ _ h) refl

power_below : (k n : ℕ) → n < 128 * 128 ^ suc k → n / 128 < 128 * 128 ^ k
power_below k n h = omega (arith, pow-suc 128 k)

pub spelled_more : (k n : ℕ) → n < 128 * 128 ^ k → spelled (suc k) n ≡ spelled (suc (suc k)) n
spelled_more zero n h = spelled_low 0 n (omega arith) ∙ sym (spelled_low 1 n (omega arith))
spelled_more (suc k) n h = elim (cases_lt n 128) [
  | inl low ↦ spelled_low (suc k) n low ∙ sym (spelled_low (suc (suc k)) n low)
  | inr high ↦ spelled_high (suc k) n high ∙ ap (λ s. (n % 128 + 128) ∷ s) (spelled_more k (n / 128) (power_below k n h)) ∙ sym (spelled_high (suc (suc k)) n high)
]

pub shortest_low : (n : ℕ) → n < 128 → shortest n ≡ n ∷ []
shortest_low n h = spelled_low 9 n h

pub shortest_high : (n : ℕ) → 128 ≤ n → n < 2 ^ 64 → shortest n ≡ (n % 128 + 128) ∷ shortest (n / 128)
shortest_high n h small = spelled_high 9 n h ∙ ap (λ s. (n % 128 + 128) ∷ s) (spelled_more 8 (n / 128) (omega arith))

pub write_more : (text new whole : List ℕ) (n : ℕ) → 128 ≤ n → n < 2 ^ 64 → new ≡ text ++ (n % 128 + 128) ∷ [] → text ++ shortest n ≡ whole → new ++ shortest (n / 128) ≡ whole
write_more text new whole n h small e before = rw e (append_assoc text _ _ ∙ ap (λ s. text ++ s) (sym (shortest_high n h small)) ∙ before)

pub write_last : (text new whole : List ℕ) (n : ℕ) → n < 128 → new ≡ text ++ n ∷ [] → text ++ shortest n ≡ whole → new ≡ whole
write_last text new whole n h e before = e ∙ ap (λ s. text ++ s) (sym (shortest_low n h)) ∙ before

spelled_length : (k n : ℕ) → length (spelled k n) ≤ k
unfolding spelled
spelled_length zero n = omega arith
spelled_length (suc k) n = elim (cases_lt n 128) [
  | inl low ↦ rw (spelled_low k n low) (omega arith)
  | inr high ↦ rw (spelled_high k n high) (let more = spelled_length k (n / 128) in omega (arith, more))
]

spelled_some : (k n : ℕ) → 0 < length (spelled (suc k) n)
spelled_some k n = elim (cases_lt n 128) [
  | inl low ↦ rw (spelled_low k n low) (omega arith)
  | inr high ↦ rw (spelled_high k n high) (omega arith)
]

pub shortest_length : (n : ℕ) → length (shortest n) ≤ 10
shortest_length n = spelled_length 10 n

-- ten bytes have room for one more
pub write_room : (text : List ℕ) (n rest : ℕ) → text ++ shortest rest ≡ shortest n → length text < 10
write_room text n rest e =
    let whole : length text + length (shortest rest) ≡ length (shortest n) = sym (length-append text (shortest rest)) ∙ ap length e in
    omega (arith, whole, spelled_some 9 rest, spelled_length 10 n)

pub ruleset writing = (write_more, write_last, write_room)

power_split : (bits n : ℕ) → 128 ≤ n → n < 2 ^ bits → (7 < bits) × (n / 128 < 2 ^ (bits - 7))
power_split bits n h small = elim (cases_lt 7 bits) [
  | inl many ↦ let e : 2 ^ bits ≡ 128 * 2 ^ (bits - 7) = pow_split bits many in (many, omega arith)
  | inr few ↦ absurd (let low : 2 ^ bits ≤ 2 ^ 7 = pow_mono {i = bits} {j = 7} few in omega arith)
]

-- the shortest spelling is one
pub spelled_spells : (k bits n : ℕ) → n < 128 * 128 ^ k → n < 2 ^ bits → IsUnsigned bits (spelled (suc k) n) n
spelled_spells zero bits n h small = rw (spelled_low zero n (omega arith)) (inl (omega arith, small, refl, refl))
spelled_spells (suc k) bits n h small = elim (cases_lt n 128) [
  | inl low ↦ rw (spelled_low (suc k) n low) (inl (low, small, refl, refl))
  | inr high ↦
      let split = power_split bits n high small in
      rw (spelled_high (suc k) n high) (inr (omega arith, omega arith, split.0, n / 128, omega arith, spelled_spells k (bits - 7) (n / 128) (power_below k n h) split.1))
]

pub shortest_spells : (bits n : ℕ) → n < 2 ^ 64 → n < 2 ^ bits → IsUnsigned bits (shortest n) n
shortest_spells bits n h small = spelled_spells 9 bits n (omega arith) small

-- no spelling is shorter
spelled_least : (k bits n : ℕ) (a : List ℕ) → IsUnsigned bits a n → length (spelled k n) ≤ length a
unfolding spelled
spelled_least zero bits n a h = omega arith
spelled_least (suc k) bits n [] h = absurd h
spelled_least (suc k) bits n (b ∷ bs) (inl h) = rw (spelled_low k n (omega (arith, h.0, h.3))) (omega arith)
spelled_least (suc k) bits n (b ∷ bs) (inr h) = elim (cases_lt n 128) [
  | inl low ↦ rw (spelled_low k n low) (omega arith)
  | inr high ↦
      let e : n / 128 ≡ h.3 = omega (arith, h.0, h.1, h.4) in
      let more = spelled_least k (bits - 7) h.3 bs h.5 in
      rw (spelled_high k n high, e) (omega (arith, more))
]

pub shortest_least : (bits n : ℕ) (a : List ℕ) → IsUnsigned bits a n → length (shortest n) ≤ length a
shortest_least bits n a h = spelled_least 10 bits n a h
