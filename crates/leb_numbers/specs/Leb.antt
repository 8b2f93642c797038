-- Numbers in LEB128 (standard, section 5.2.2).
use Rattle.std.specs.Prelude.{◌≡◌, ℕ, ◌+◌, ◌-◌, ◌*◌, ◌^◌, ◌<◌, ◌≤◌, ◌⊎◌, ◌%◌, ◌/◌, zero, suc, nat_lt, nat_le, min, if◌then◌else◌, List, [], ◌∷◌, ◌++◌, length, Result, Ok, Err, ℤ}
use Rattle.std.specs.Int.{Width, cast_unsigned}
use Rattle.leb_numbers.specs.declared.leb.LebFault.{LebFault}
use Rattle.leb_numbers.specs.declared.leb.LebFault.TheVariants.{Short, Long, Bits}

-- The bytes spell n, an unsigned number of so many bits (5.2.2). A byte below 128 is the last. One from 128 on has
-- seven low bits, and the bytes after it spell the rest, of seven bits fewer. Padding by zeros is allowed.
abbrev pub IsUnsigned : ℕ → List ℕ → ℕ → Type 0
IsUnsigned bits [] n = ⊥
IsUnsigned bits (b ∷ bs) n =
    ((b < 128) × (b < 2 ^ bits) × (bs ≡ []) × (n ≡ b))
    ⊎ ((128 ≤ b) × (b < 256) × (7 < bits) × (high : ℕ) × (n + 128 ≡ b + 128 * high) × IsUnsigned (bits - 7) bs high)

-- The number of a signed spelling's last byte (5.2.2), as so many bits of two's complement; unused bits have to repeat the sign.
abbrev pub last_signed : ℕ → ℕ → Result ℕ LebFault
last_signed bits b =
    if nat_lt b 64 then (if nat_lt b (2 ^ (bits - 1)) then Ok b else Err Bits)
    else (if nat_lt (b + 2 ^ (bits - 1)) 128 then Err Bits else Ok (b + 2 ^ bits - 128))

-- The bytes spell n, a signed number as so many bits of two's complement (5.2.2).
abbrev pub IsSigned : ℕ → List ℕ → ℕ → Type 0
IsSigned bits [] n = ⊥
IsSigned bits (b ∷ bs) n =
    ((b < 128) × (bs ≡ []) × (last_signed bits b ≡ Ok n))
    ⊎ ((128 ≤ b) × (b < 256) × (7 < bits) × (high : ℕ) × (n + 128 ≡ b + 128 * high) × IsSigned (bits - 7) bs high)

-- the number with these seven low bits, given the number above them
abbrev pub above : ℕ → Result ℕ LebFault → Result ℕ LebFault
above b (Ok high) = Ok (b - 128 + 128 * high)
above b (Err e) = Err e

-- What reading an unsigned number of so many bits (5.2.2) answers, and the place behind the last byte looked at,
-- for bytes that begin at this place.
unfoldable pub unsigned_at : ℕ → List ℕ → ℕ → Result ℕ LebFault × ℕ
unsigned_at bits [] at = (Err Short, at)
unsigned_at bits (b ∷ bs) at =
    if nat_lt b 128 then (if nat_lt b (2 ^ bits) then (Ok b, at + 1) else (Err Bits, at + 1))
    else (if nat_lt 7 bits
    then (above b (unsigned_at (bits - 7) bs (at + 1)).0, (unsigned_at (bits - 7) bs (at + 1)).1)
    else (Err Long, at + 1))

-- The same of a signed number (5.2.2), as so many bits of two's complement.
unfoldable pub signed_at : ℕ → List ℕ → ℕ → Result ℕ LebFault × ℕ
signed_at bits [] at = (Err Short, at)
signed_at bits (b ∷ bs) at =
    if nat_lt b 128 then (last_signed bits b, at + 1)
    else (if nat_lt 7 bits
    then (above b (signed_at (bits - 7) bs (at + 1)).0, (signed_at (bits - 7) bs (at + 1)).1)
    else (Err Long, at + 1))

-- a signed number as so many bits of two's complement
abbrev pub in_bits : Width → Result ℤ LebFault → Result ℕ LebFault
in_bits w (Ok z) = Ok (cast_unsigned w z)
in_bits w (Err e) = Err e

-- the shortest spelling of an unsigned number, in at most so many bytes
unfoldable pub spelled : ℕ → ℕ → List ℕ
spelled zero n = []
spelled (suc k) n = if nat_lt n 128 then n ∷ [] else (n % 128 + 128) ∷ spelled k (n / 128)

-- the shortest spelling of an unsigned number (5.2.2); ten bytes hold 64 bits
abbrev pub shortest : ℕ → List ℕ
shortest n = spelled 10 n

-- the shortest spelling of so many bits of two's complement, in at most so many bytes: the last holds what is at least -64 and below 64
unfoldable pub signed_spelled : ℕ → ℕ → ℕ → List ℕ
signed_spelled zero bits n = []
signed_spelled (suc k) bits n =
    if nat_lt n (min 64 (2 ^ (bits - 1))) then n ∷ []
    else (if nat_le (2 ^ bits) (n + 64) then (n + 128 - 2 ^ bits) ∷ []
    else (n % 128 + 128) ∷ signed_spelled k (bits - 7) (n / 128))

-- the shortest spelling of a signed number (5.2.2), as so many bits of two's complement
abbrev pub shortest_signed : ℕ → ℕ → List ℕ
shortest_signed bits n = signed_spelled 10 bits n

-- a number that stands at the front of these bytes: its bytes, what follows them, and the place behind it
pub record Front (Spells : List ℕ → Type 0) (bytes : List ℕ) (at end : ℕ) : Type 0 where
  pub front : List ℕ
  pub rest : List ℕ
  pub split : bytes ≡ front ++ rest
  pub place : end ≡ at + length front
  pub spells : Spells front

-- these bits of two's complement take more bytes than one
pub record IsLong (bits n : ℕ) : Type 0 where
  pub above_low : min 64 (2 ^ (bits - 1)) ≤ n
  pub below_minus : n + 64 < 2 ^ bits

-- these bits of two's complement are spelled by this one byte
pub record IsOneByte (bits n b : ℕ) : Type 0 where
  pub byte : (k : ℕ) → signed_spelled (suc k) bits n ≡ b ∷ []
