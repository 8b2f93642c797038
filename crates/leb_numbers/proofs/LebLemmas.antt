-- What reading answers, by the byte that comes first.
use Rattle.std.proofs.Common.{◌≡◌, ℕ, ◌+◌, ◌-◌, ◌*◌, ◌%◌, ◌^◌, ◌<◌, ◌≤◌, List, ◌∷◌, Ok, Err, refl, ap, ◌∙◌, arith, add-one, length, get_or, drop, drop-cons}
use Rattle.std.proofs.lemmas.List.{drop_all}
use Rattle.std.proofs.lemmas.Nat.{pow-add}
use Rattle.std.proofs.Math.Pow.{pow_mono}
use Rattle.std.proofs.lemmas.Bool.{lt-ltb, le-ltb}
use Rattle.leb_numbers.specs.declared.leb.LebFault.TheVariants.{Short, Long, Bits}
use Rattle.leb_numbers.specs.Leb.{unsigned_at, signed_at, last_signed, above}

pub at_end : (bits : ℕ) (bytes : List ℕ) (at : ℕ) → length bytes ≤ at → unsigned_at bits (drop at bytes) at ≡ (Err Short, at)
unfolding unsigned_at
at_end bits bytes at h = ap (λ s. unsigned_at bits s at) (drop_all at bytes h)

pub at_byte : (bits : ℕ) (bytes : List ℕ) (at : ℕ) → at < length bytes → unsigned_at bits (drop at bytes) at ≡ unsigned_at bits (get_or bytes at 0 ∷ drop (at + 1) bytes) at
at_byte bits bytes at h = ap (λ s. unsigned_at bits s at) (rw (add-one, drop-cons bytes at 0) refl)

pub at_last : (bits : ℕ) (bytes : List ℕ) (at : ℕ) → at < length bytes → get_or bytes at 0 < 128 → get_or bytes at 0 < 2 ^ bits → unsigned_at bits (drop at bytes) at ≡ (Ok (get_or bytes at 0), at + 1)
unfolding unsigned_at
at_last bits bytes at h low fits = at_byte bits bytes at h ∙ rw (lt-ltb _ _ low, lt-ltb _ _ fits) refl

pub at_bits : (bits : ℕ) (bytes : List ℕ) (at : ℕ) → at < length bytes → get_or bytes at 0 < 128 → 2 ^ bits ≤ get_or bytes at 0 → unsigned_at bits (drop at bytes) at ≡ (Err Bits, at + 1)
unfolding unsigned_at
at_bits bits bytes at h low past = at_byte bits bytes at h ∙ rw (lt-ltb _ _ low, le-ltb _ _ past) refl

pub at_long : (bits : ℕ) (bytes : List ℕ) (at : ℕ) → at < length bytes → 128 ≤ get_or bytes at 0 → bits ≤ 7 → unsigned_at bits (drop at bytes) at ≡ (Err Long, at + 1)
unfolding unsigned_at
at_long bits bytes at h high few = at_byte bits bytes at h ∙ rw (le-ltb _ _ high, le-ltb _ _ few) refl

pub at_more : (bits : ℕ) (bytes : List ℕ) (at : ℕ) → at < length bytes → 128 ≤ get_or bytes at 0 → 7 < bits
    → unsigned_at bits (drop at bytes) at ≡ (above (get_or bytes at 0) (unsigned_at (bits - 7) (drop (at + 1) bytes) (at + 1)).0, (unsigned_at (bits - 7) (drop (at + 1) bytes) (at + 1)).1)
unfolding unsigned_at
at_more bits bytes at h high many = at_byte bits bytes at h ∙ rw (le-ltb _ _ high, lt-ltb _ _ many) refl

pub ruleset reading = (at_end, at_last, at_bits, at_long, at_more)

pub pow_split : (bits : ℕ) → 7 < bits → 2 ^ bits ≡ 128 * 2 ^ (bits - 7)
pow_split bits h = let e : bits ≡ 7 + (bits - 7) = omega arith in ap (λ k. 2 ^ k) e ∙ pow-add 2 7 (bits - 7)

pub pow_seven : (bits : ℕ) → 7 ≤ bits → 128 ≤ 2 ^ bits
pow_seven bits h = pow_mono {i = 7} {j = bits} h

pub pow_word : (bits : ℕ) → bits ≤ 64 → 2 ^ bits ≤ 2 ^ 64
pow_word bits h = pow_mono {i = bits} {j = 64} h

pub ruleset sizes = (pow_split, pow_seven, pow_word)

pub shl_small : (bits : ℕ) → bits < 7 → (1 * 2 ^ bits) % 2 ^ 64 ≡ 2 ^ bits
shl_small bits h = let low : 2 ^ bits ≤ 2 ^ 7 = pow_mono {i = bits} {j = 7} (omega arith) in omega arith

pub s_end : (bits : ℕ) (bytes : List ℕ) (at : ℕ) → length bytes ≤ at → signed_at bits (drop at bytes) at ≡ (Err Short, at)
unfolding signed_at
s_end bits bytes at h = ap (λ s. signed_at bits s at) (drop_all at bytes h)

pub s_byte : (bits : ℕ) (bytes : List ℕ) (at : ℕ) → at < length bytes → signed_at bits (drop at bytes) at ≡ signed_at bits (get_or bytes at 0 ∷ drop (at + 1) bytes) at
s_byte bits bytes at h = ap (λ s. signed_at bits s at) (rw (add-one, drop-cons bytes at 0) refl)

pub s_last : (bits : ℕ) (bytes : List ℕ) (at : ℕ) → at < length bytes → get_or bytes at 0 < 128 → signed_at bits (drop at bytes) at ≡ (last_signed bits (get_or bytes at 0), at + 1)
unfolding signed_at
s_last bits bytes at h low = s_byte bits bytes at h ∙ rw (lt-ltb _ _ low) refl

pub s_long : (bits : ℕ) (bytes : List ℕ) (at : ℕ) → at < length bytes → 128 ≤ get_or bytes at 0 → bits ≤ 7 → signed_at bits (drop at bytes) at ≡ (Err Long, at + 1)
unfolding signed_at
s_long bits bytes at h high few = s_byte bits bytes at h ∙ rw (le-ltb _ _ high, le-ltb _ _ few) refl

pub s_more : (bits : ℕ) (bytes : List ℕ) (at : ℕ) → at < length bytes → 128 ≤ get_or bytes at 0 → 7 < bits
    → signed_at bits (drop at bytes) at ≡ (above (get_or bytes at 0) (signed_at (bits - 7) (drop (at + 1) bytes) (at + 1)).0, (signed_at (bits - 7) (drop (at + 1) bytes) (at + 1)).1)
unfolding signed_at
s_more bits bytes at h high many = s_byte bits bytes at h ∙ rw (le-ltb _ _ high, lt-ltb _ _ many) refl

pub ruleset signed_reading = (s_end, s_last, s_long, s_more)

pub pow_half : (bits : ℕ) → 1 ≤ bits → 2 ^ bits ≡ 2 * 2 ^ (bits - 1)
pow_half bits h = let e : bits ≡ 1 + (bits - 1) = omega arith in ap (λ k. 2 ^ k) e ∙ pow-add 2 1 (bits - 1)

pub shl_word : (bits : ℕ) → bits < 64 → (1 * 2 ^ bits) % 2 ^ 64 ≡ 2 ^ bits
shl_word bits h = let low : 2 ^ bits ≤ 2 ^ 63 = pow_mono {i = bits} {j = 63} (omega arith) in omega arith
