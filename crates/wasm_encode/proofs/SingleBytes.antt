-- Numbers that are spelled by one byte.
use Rattle.std.proofs.Common.{◌≡◌, ℕ, ◌-◌, ◌<◌, ◌≤◌, ◌^◌, [], ◌∷◌, ap, arith, length}
use Rattle.std.proofs.Math.Pow.{pow_mono}
use Rattle.leb_numbers.specs.Leb.{shortest, shortest_signed}
use Rattle.leb_numbers.proofs.UnsignedSpelling.{shortest_low}
use Rattle.leb_numbers.proofs.SignedSpelling.{signed_low}

pub low : (n : ℕ) → n < 128 → shortest n ≡ n ∷ []
low n h = shortest_low n h

pub low_length : (n : ℕ) → n < 128 → length (shortest n) ≡ 1
low_length n h = ap length (shortest_low n h)

pub low_signed : (bits n : ℕ) → n < 64 → 8 ≤ bits → shortest_signed bits n ≡ n ∷ []
low_signed bits n h many =
    let more : 2 ^ 6 ≤ 2 ^ (bits - 1) = pow_mono {i = 6} {j = bits - 1} (omega arith) in
    signed_low 9 bits n h (omega (arith, more))

pub low_signed_length : (bits n : ℕ) → n < 64 → 8 ≤ bits → length (shortest_signed bits n) ≡ 1
low_signed_length bits n h many = ap length (low_signed bits n h many)

pub ruleset one_byte = (low, low_length, low_signed, low_signed_length)
