-- The operations on integers (standard, section 4.3), over the width N in bits. An integer is its unsigned
-- number, below 2 ^ N.
use Rattle.std.specs.Prelude.{ℕ, zero, suc, ◌+◌, ◌-◌, ◌*◌, ◌/◌, ◌%◌, ◌^◌, Bool, not, ◌==◌, nat_lt, nat_le, if◌then◌else◌, ℤ, pos, negsuc, ◌-ℤ◌, int_lt, int_le, int_div, int_rem, List, []}
use Rattle.std.specs.Prelude.{◌∷◌, sum, Result, Ok, Err, bit_and, bit_or, bit_xor}
use Rattle.std.specs.List.{prefix_len, suffix_len}
use Rattle.std.specs.Ordering.{int_eq}
use Rattle.wa_types.specs.declared.values.Trap.{Trap}
use Rattle.wa_types.specs.declared.values.Trap.TheVariants.{DivideByZero, IntegerOverflow}

-- ---- representations (4.3.1)

-- the signed reading of an integer (signed_N)
abbrev pub signed : ℕ → ℕ → ℤ
signed N i = if nat_lt i (2 ^ (N - 1)) then pos i else pos i -ℤ pos (2 ^ N)

-- the integer with a signed reading (the inverse of signed_N)
abbrev pub unsigned : ℕ → ℤ → ℕ
unsigned N (pos n) = n
unsigned N (negsuc n) = 2 ^ N - suc n

-- the bits of an integer, lowest first (ibits_N, read from its end)
unfoldable pub bits_of : ℕ → ℕ → List ℕ
bits_of zero i = []
bits_of (suc N) i = i % 2 ∷ bits_of N (i / 2)

-- a test as an integer (bool)
abbrev pub of_bool : Bool → ℕ
of_bool b = if b then 1 else 0

-- ---- operators with one operand (4.3.2)

-- the number of leading zeros, N for 0
abbrev pub iclz : ℕ → ℕ → ℕ
iclz N i = suffix_len (λ bit. bit == 0) (bits_of N i)

-- the number of trailing zeros, N for 0
abbrev pub ictz : ℕ → ℕ → ℕ
ictz N i = prefix_len (λ bit. bit == 0) (bits_of N i)

-- the number of bits that are 1
abbrev pub ipopcnt : ℕ → ℕ → ℕ
ipopcnt N i = sum (bits_of N i)

-- whether an integer is 0
abbrev pub ieqz : ℕ → ℕ
ieqz i = of_bool (i == 0)

-- ---- operators with two operands (4.3.2); a partial one traps where it isn't defined

-- the sum modulo 2 ^ N
abbrev pub iadd : ℕ → ℕ → ℕ → ℕ
iadd N i j = (i + j) % 2 ^ N

-- the difference modulo 2 ^ N
abbrev pub isub : ℕ → ℕ → ℕ → ℕ
isub N i j = (i + 2 ^ N - j) % 2 ^ N

-- the product modulo 2 ^ N
abbrev pub imul : ℕ → ℕ → ℕ → ℕ
imul N i j = (i * j) % 2 ^ N

-- the quotient, rounded down; undefined for a divisor 0
abbrev pub idiv_u : ℕ → ℕ → Result ℕ Trap
idiv_u i j = if j == 0 then Err DivideByZero else Ok (i / j)

-- the quotient of the signed readings, rounded towards zero; undefined for a divisor 0 and where it is 2 ^ (N - 1)
abbrev pub idiv_s : ℕ → ℕ → ℕ → Result ℕ Trap
idiv_s N i j =
    if j == 0 then Err DivideByZero else
    (if int_eq (int_div (signed N i) (signed N j)) (pos (2 ^ (N - 1))) then Err IntegerOverflow else
    Ok (unsigned N (int_div (signed N i) (signed N j))))

-- the remainder; undefined for a divisor 0
abbrev pub irem_u : ℕ → ℕ → Result ℕ Trap
irem_u i j = if j == 0 then Err DivideByZero else Ok (i % j)

-- the remainder of the signed readings, with the sign of the dividend; undefined for a divisor 0
abbrev pub irem_s : ℕ → ℕ → ℕ → Result ℕ Trap
irem_s N i j = if j == 0 then Err DivideByZero else Ok (unsigned N (int_rem (signed N i) (signed N j)))

-- the bitwise conjunction
abbrev pub iand : ℕ → ℕ → ℕ
iand i j = bit_and i j

-- the bitwise disjunction
abbrev pub ior : ℕ → ℕ → ℕ
ior i j = bit_or i j

-- the bitwise exclusive disjunction
abbrev pub ixor : ℕ → ℕ → ℕ
ixor i j = bit_xor i j

-- shifted to the left by j modulo N bits
abbrev pub ishl : ℕ → ℕ → ℕ → ℕ
ishl N i j = i * 2 ^ (j % N) % 2 ^ N

-- shifted to the right by j modulo N bits
abbrev pub ishr_u : ℕ → ℕ → ℕ → ℕ
ishr_u N i j = i / 2 ^ (j % N)

-- the same, with copies of the highest bit coming in
abbrev pub ishr_s : ℕ → ℕ → ℕ → ℕ
ishr_s N i j = i / 2 ^ (j % N) + (if nat_lt i (2 ^ (N - 1)) then 0 else 2 ^ N - 2 ^ (N - j % N))

-- rotated to the left by j modulo N bits: the highest bits come back at the low end
abbrev pub irotl : ℕ → ℕ → ℕ → ℕ
irotl N i j = i * 2 ^ (j % N) % 2 ^ N + i / 2 ^ (N - j % N)

-- rotated to the right by j modulo N bits: the lowest bits come back at the high end
abbrev pub irotr : ℕ → ℕ → ℕ → ℕ
irotr N i j = i % 2 ^ (j % N) * 2 ^ (N - j % N) + i / 2 ^ (j % N)

-- ---- comparisons (4.3.2)

-- whether i is j
abbrev pub ieq : ℕ → ℕ → ℕ
ieq i j = of_bool (i == j)

-- whether i is another number than j
abbrev pub ine : ℕ → ℕ → ℕ
ine i j = of_bool (not (i == j))

-- whether i is below j
abbrev pub ilt_u : ℕ → ℕ → ℕ
ilt_u i j = of_bool (nat_lt i j)

-- the same, of the signed readings
abbrev pub ilt_s : ℕ → ℕ → ℕ → ℕ
ilt_s N i j = of_bool (int_lt (signed N i) (signed N j))

-- whether i is above j
abbrev pub igt_u : ℕ → ℕ → ℕ
igt_u i j = of_bool (nat_lt j i)

-- the same, of the signed readings
abbrev pub igt_s : ℕ → ℕ → ℕ → ℕ
igt_s N i j = of_bool (int_lt (signed N j) (signed N i))

-- whether i is at most j
abbrev pub ile_u : ℕ → ℕ → ℕ
ile_u i j = of_bool (nat_le i j)

-- the same, of the signed readings
abbrev pub ile_s : ℕ → ℕ → ℕ → ℕ
ile_s N i j = of_bool (int_le (signed N i) (signed N j))

-- whether i is at least j
abbrev pub ige_u : ℕ → ℕ → ℕ
ige_u i j = of_bool (nat_le j i)

-- the same, of the signed readings
abbrev pub ige_s : ℕ → ℕ → ℕ → ℕ
ige_s N i j = of_bool (int_le (signed N j) (signed N i))

-- ---- conversions (4.3.4)

-- to the low N bits (wrap)
abbrev pub wrap : ℕ → ℕ → ℕ
wrap N i = i % 2 ^ N

-- the same number at a greater width (extend_u)
abbrev pub extend_u : ℕ → ℕ
extend_u i = i

-- the same signed reading, from M bits to N (extend_s)
abbrev pub extend_s : ℕ → ℕ → ℕ → ℕ
extend_s M N i = unsigned N (signed M i)

-- ---- sign extensions (version 2.0, 4.3.2)

-- the low M bits as a signed number, at N bits (iextendM_s)
abbrev pub iextend_s : ℕ → ℕ → ℕ → ℕ
iextend_s M N i = extend_s M N (wrap M i)
