-- Numbers of one byte.
use Rattle.std.proofs.Common.{◌≡◌, ℕ, ◌-◌, ◌^◌, ◌<◌, ◌≤◌, Ok, refl, arith}
use Rattle.std.proofs.lemmas.Bool.{lt-ltb}
use Rattle.std.proofs.Math.Pow.{pow_mono}
use Rattle.leb_numbers.specs.Leb.{last_signed}

-- a signed number of one byte that isn't negative
pub low_signed : (bits b : ℕ) → 7 < bits → b < 64 → last_signed bits b ≡ Ok b
low_signed bits b many h =
    let p : 128 ≤ 2 ^ (bits - 1) = pow_mono {i = 7} {j = bits - 1} (omega arith) in
    rw (lt-ltb b 64 h, lt-ltb b (2 ^ (bits - 1)) (omega (arith, h, p))) refl
