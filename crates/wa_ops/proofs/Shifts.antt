-- Shifts and rotations: those of the definitions are the ones of Rust's operators and methods.
use Rattle.std.proofs.Common.{◌≡◌, ℕ, Bool, true, false, cond, ltb, zero, suc, ◌+◌, ◌-◌, ◌*◌, ◌/◌, ◌%◌, ◌^◌, ◌<◌, ◌≤◌, sym, ◌∙◌, ap, subst, arith}
use Rattle.std.specs.Prelude.{bit_or, pos, negsuc}
use Rattle.std.specs.Int.{w32, w64, cast_signed, cast_unsigned, int_shr}
use Rattle.std.proofs.lemmas.Nat.{pow-add, or_shifted, or_comm, shl-shr, shr_below, div-mul-add, div-add-mod', mod_below, pow_pos}
use Rattle.std.proofs.Math.Nat.{mul-mod_left, mod-eq_of_lt, mod_self, div-eq_of_lt, zero-mul, add-mul, suc-mul}
use lib.Bits.{or_self}
use lib.Pow.{mod-pow-add, pow_mono}

-- a number shifted to the left, within N bits
shifted_low : (N k i : ℕ) → k ≤ N → i * 2 ^ k % 2 ^ N ≡ i % 2 ^ (N - k) * 2 ^ k
shifted_low N k i h =
    let width : N ≡ N - k + k = omega arith in
    let split : i * 2 ^ k % 2 ^ (N - k + k) ≡ i * 2 ^ k / 2 ^ k % 2 ^ (N - k) * 2 ^ k + i * 2 ^ k % 2 ^ k = mod-pow-add (i * 2 ^ k) (N - k) k in
    let high : i * 2 ^ k / 2 ^ k ≡ i = shl-shr i k in
    ap (λ (n : ℕ). i * 2 ^ k % 2 ^ n) width ∙ split ∙ ap (λ (x : ℕ). x % 2 ^ (N - k) * 2 ^ k + i * 2 ^ k % 2 ^ k) high
    ∙ omega (arith, mul-mod_left i (2 ^ k))

-- the k highest bits of N
high_below : (N k i : ℕ) → k ≤ N → i < 2 ^ N → i / 2 ^ (N - k) < 2 ^ k
high_below N k i h p = shr_below i k (N - k) (let e : N ≡ k + (N - k) = omega arith in subst (λ (n : ℕ). i < 2 ^ n) e p)

pub rotl_is : (N k i : ℕ) → k < N → i < 2 ^ N
    → bit_or (i * 2 ^ k % 2 ^ N) (i / 2 ^ ((N - k) % N)) ≡ i * 2 ^ k % 2 ^ N + i / 2 ^ (N - k)
rotl_is N zero i h p =
    let turn : (N - 0) % N ≡ 0 = ap (λ (n : ℕ). n % N) (let e : N - 0 ≡ N = omega arith in e) ∙ mod_self N in
    let whole : i * 1 % 2 ^ N ≡ i = ap (λ (x : ℕ). x % 2 ^ N) (let e : i * 1 ≡ i = omega arith in e) ∙ mod-eq_of_lt p in
    let none : i / 2 ^ (N - 0) ≡ 0 = ap (λ (n : ℕ). i / 2 ^ n) (let e : N - 0 ≡ N = omega arith in e) ∙ div-eq_of_lt p in
    ap (λ (t : ℕ). bit_or (i * 1 % 2 ^ N) (i / 2 ^ t)) turn ∙ ap (λ (x : ℕ). bit_or x (i / 1)) whole
    ∙ ap (bit_or i) (let e : i / 1 ≡ i = omega arith in e) ∙ or_self i ∙ omega arith
rotl_is N (suc k) i h p =
    let turn : (N - suc k) % N ≡ N - suc k = mod-eq_of_lt (omega arith) in
    let low : i * 2 ^ suc k % 2 ^ N ≡ i % 2 ^ (N - suc k) * 2 ^ suc k = shifted_low N (suc k) i (omega arith) in
    ap (λ (t : ℕ). bit_or (i * 2 ^ suc k % 2 ^ N) (i / 2 ^ t)) turn
    ∙ ap (λ (x : ℕ). bit_or x (i / 2 ^ (N - suc k))) low
    ∙ or_shifted (i % 2 ^ (N - suc k)) (suc k) (i / 2 ^ (N - suc k)) (high_below N (suc k) i (omega arith) p)
    ∙ ap (λ (x : ℕ). x + i / 2 ^ (N - suc k)) (sym low)

pub rotr_is : (N k i : ℕ) → k < N → i < 2 ^ N
    → bit_or (i / 2 ^ k) (i * 2 ^ ((N - k) % N) % 2 ^ N) ≡ i % 2 ^ k * 2 ^ (N - k) + i / 2 ^ k
rotr_is N zero i h p =
    let turn : (N - 0) % N ≡ 0 = ap (λ (n : ℕ). n % N) (let e : N - 0 ≡ N = omega arith in e) ∙ mod_self N in
    let whole : i * 1 % 2 ^ N ≡ i = ap (λ (x : ℕ). x % 2 ^ N) (let e : i * 1 ≡ i = omega arith in e) ∙ mod-eq_of_lt p in
    let none : i % 1 * 2 ^ (N - 0) ≡ 0 = ap (λ (x : ℕ). x * 2 ^ (N - 0)) (let e : i % 1 ≡ 0 = omega arith in e) ∙ zero-mul (2 ^ (N - 0)) in
    ap (λ (t : ℕ). bit_or (i / 1) (i * 2 ^ t % 2 ^ N)) turn ∙ ap (λ (x : ℕ). bit_or (i / 1) x) whole
    ∙ ap (λ (x : ℕ). bit_or x i) (let e : i / 1 ≡ i = omega arith in e) ∙ or_self i ∙ omega arith
rotr_is N (suc k) i h p =
    let turn : (N - suc k) % N ≡ N - suc k = mod-eq_of_lt (omega arith) in
    let back : N - (N - suc k) ≡ suc k = omega arith in
    let low : i * 2 ^ (N - suc k) % 2 ^ N ≡ i % 2 ^ suc k * 2 ^ (N - suc k) =
    shifted_low N (N - suc k) i (omega arith) ∙ ap (λ (n : ℕ). i % 2 ^ n * 2 ^ (N - suc k)) back in
    let below : i / 2 ^ suc k < 2 ^ (N - suc k) =
    shr_below i (N - suc k) (suc k) (let e : N ≡ N - suc k + suc k = omega arith in subst (λ (n : ℕ). i < 2 ^ n) e p) in
    ap (λ (t : ℕ). bit_or (i / 2 ^ suc k) (i * 2 ^ t % 2 ^ N)) turn
    ∙ ap (λ (x : ℕ). bit_or (i / 2 ^ suc k) x) low
    ∙ or_comm (i / 2 ^ suc k) (i % 2 ^ suc k * 2 ^ (N - suc k))
    ∙ or_shifted (i % 2 ^ suc k) (N - suc k) (i / 2 ^ suc k) below

-- the complement of a number, shifted to the right: the complement of the number shifted so, within fewer bits
pub shr-complement : (N k i : ℕ) → k ≤ N → i < 2 ^ N
    → 2 ^ N - suc ((2 ^ N - suc i) / 2 ^ k) ≡ i / 2 ^ k + (2 ^ N - 2 ^ (N - k))
shr-complement N k i h p =
    let q = i / 2 ^ k in
    let r = i % 2 ^ k in
    let d = 2 ^ (N - k) - suc q in
    let below : q < 2 ^ (N - k) =
    shr_below i (N - k) k (let e : N ≡ N - k + k = omega arith in subst (λ (n : ℕ). i < 2 ^ n) e p) in
    let parts : q * 2 ^ k + r ≡ i = div-add-mod' i (2 ^ k) in
    let rest : r < 2 ^ k = mod_below i (2 ^ k) (pow_pos k) in
    let all : 2 ^ N ≡ 2 ^ (N - k) * 2 ^ k =
    (let e : N ≡ N - k + k = omega arith in ap (λ (n : ℕ). 2 ^ n) e ∙ pow-add 2 (N - k) k) in
    let high : 2 ^ (N - k) ≡ suc q + d = omega arith in
    let product : 2 ^ N ≡ q * 2 ^ k + 2 ^ k + d * 2 ^ k =
    all ∙ ap (λ (m : ℕ). m * 2 ^ k) high ∙ add-mul (suc q) d (2 ^ k) ∙ ap (λ (m : ℕ). m + d * 2 ^ k) (suc-mul q (2 ^ k)) in
    let complement : 2 ^ N - suc i ≡ d * 2 ^ k + (2 ^ k - suc r) = omega arith in
    let quotient : (2 ^ N - suc i) / 2 ^ k ≡ d =
    ap (λ (m : ℕ). m / 2 ^ k) complement ∙ div-mul-add d (2 ^ k) (2 ^ k - suc r) (omega arith) in
    let fits : 2 ^ (N - k) ≤ 2 ^ N = pow_mono (let e : N - k ≤ N = omega arith in e) in
    ap (λ (m : ℕ). 2 ^ N - suc m) quotient ∙ omega arith

-- the shift of a signed number of 32 bits: copies of the highest bit come in
pub shr_s_32 : (i k : ℕ) → i < 2 ^ 32 → k < 32
    → cast_unsigned w32 (int_shr (cast_signed w32 i) k)
    ≡ i / 2 ^ k + cond (ltb i (2 ^ 31)) 0 (2 ^ 32 - 2 ^ (32 - k))
shr_s_32 i k h p = at_sign (ltb i (2 ^ 31))
  where
    at_sign : (low : Bool)
        → cast_unsigned w32 (int_shr (cond low (pos i) (negsuc (2 ^ 32 - suc i))) k)
        ≡ i / 2 ^ k + cond low 0 (2 ^ 32 - 2 ^ (32 - k))
    at_sign true = omega arith
    at_sign false = shr-complement 32 k i (omega arith) h

-- the shift of a signed number of 64 bits: copies of the highest bit come in
pub shr_s_64 : (i k : ℕ) → i < 2 ^ 64 → k < 64
    → cast_unsigned w64 (int_shr (cast_signed w64 i) k)
    ≡ i / 2 ^ k + cond (ltb i (2 ^ 63)) 0 (2 ^ 64 - 2 ^ (64 - k))
shr_s_64 i k h p = at_sign (ltb i (2 ^ 63))
  where
    at_sign : (low : Bool)
        → cast_unsigned w64 (int_shr (cond low (pos i) (negsuc (2 ^ 64 - suc i))) k)
        ≡ i / 2 ^ k + cond low 0 (2 ^ 64 - 2 ^ (64 - k))
    at_sign true = omega arith
    at_sign false = shr-complement 64 k i (omega arith) h
