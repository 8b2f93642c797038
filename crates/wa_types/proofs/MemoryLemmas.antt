-- Reads of memory after writes, and numbers as bytes.
use Rattle.std.proofs.Common.{◌≡◌, ℕ, zero, suc, ◌+◌, ◌-◌, ◌*◌, ◌/◌, ◌%◌, ◌^◌, ◌<◌, ◌≤◌, List, ◌++◌, length, take, drop, refl, sym, ◌∙◌, ap, arith, length-append, length-drop}
use Rattle.std.proofs.lemmas.List.{length-take-le, take_at, drop_at, drop-drop, take-append-le, drop-append-le, append_assoc, take-append-drop}
use Rattle.std.proofs.Math.Nat.{div-div-eq-div-mul, pow-suc}
use Rattle.std.specs.Int.{bytes_low_first, byte_at}
use lib.Arith.{mod-mul}
use Rattle.wa_types.specs.Memory.{bytes_of, number_of_bytes, bytes_at, overwritten}

length-low_first : (i k n : ℕ) → length (bytes_low_first i k n) ≡ k
length-low_first i zero n = refl
length-low_first i (suc k) n = ap suc (length-low_first (suc i) k n)

pub length-bytes_of : (width n : ℕ) → length (bytes_of width n) ≡ width
length-bytes_of width n = length-low_first 0 width n

byte_at_is : (i n : ℕ) → byte_at i n ≡ n / 256 ^ i % 256
byte_at_is zero n = omega arith
byte_at_is (suc i) n = refl

pow_256_pos : (k : ℕ) → 0 < 256 ^ k
pow_256_pos zero = omega arith
pow_256_pos (suc k) = let p : 0 < 256 ^ k = pow_256_pos k in omega (arith, pow-suc 256 k)

number-low_first : (i k n : ℕ) → number_of_bytes (bytes_low_first i k n) ≡ n / 256 ^ i % 256 ^ k
number-low_first i zero n = omega arith
number-low_first i (suc k) n =
    let rest : number_of_bytes (bytes_low_first (suc i) k n) ≡ n / 256 ^ suc i % 256 ^ k = number-low_first (suc i) k n in
    let shifted : n / 256 ^ suc i ≡ n / 256 ^ i / 256 =
    ap (λ (m : ℕ). n / m) (pow-suc 256 i) ∙ sym (div-div-eq-div-mul n (256 ^ i) 256) in
    let parts : n / 256 ^ i % (256 ^ k * 256) ≡ n / 256 ^ i / 256 % 256 ^ k * 256 + n / 256 ^ i % 256 =
    mod-mul (n / 256 ^ i) (pow_256_pos k) (let p : 0 < 256 = omega arith in p) in
    let there : number_of_bytes (bytes_low_first (suc i) k n) ≡ n / 256 ^ i / 256 % 256 ^ k =
    rest ∙ ap (λ (m : ℕ). m % 256 ^ k) shifted in
    omega (arith, byte_at_is i n) ∙ sym parts ∙ ap (λ (m : ℕ). n / 256 ^ i % m) (sym (pow-suc 256 k))

-- the low bytes of a number spell it modulo their power
pub number_of_bytes-bytes_of : (width n : ℕ) → number_of_bytes (bytes_of width n) ≡ n % 256 ^ width
number_of_bytes-bytes_of width n =
    number-low_first 0 width n ∙ ap (λ (m : ℕ). m % 256 ^ width) (let e : n / 1 ≡ n = omega arith in e)

pub length-overwritten : (bytes : List ℕ) (at : ℕ) (piece : List ℕ) → at + length piece ≤ length bytes
    → length (overwritten bytes at piece) ≡ length bytes
length-overwritten bytes at piece h =
    let before : length (take at bytes) ≡ at = length-take-le at bytes (omega arith) in
    omega (
      arith,
      length-append (take at bytes ++ piece) (drop (at + length piece) bytes),
      length-append (take at bytes) piece,
      length-drop (at + length piece) bytes,
    )

-- what is written stands there
pub bytes_at-overwritten : (bytes : List ℕ) (at : ℕ) (piece : List ℕ) → at + length piece ≤ length bytes
    → bytes_at (overwritten bytes at piece) at (length piece) ≡ piece
bytes_at-overwritten bytes at piece h =
    let behind = drop (at + length piece) bytes in
    ap (λ (xs : List ℕ). take (length piece) (drop at xs)) (append_assoc (take at bytes) piece behind)
    ∙ ap (take (length piece)) (drop_at (take at bytes) (piece ++ behind) at (length-take-le at bytes (omega arith)))
    ∙ take_at piece behind (length piece) refl

-- so many bytes stand at an address inside
pub length-bytes_at : (bytes : List ℕ) (at width : ℕ) → at + width ≤ length bytes → length (bytes_at bytes at width) ≡ width
length-bytes_at bytes at width h = length-take-le width (drop at bytes) (omega (arith, length-drop at bytes))

-- more bytes at the end, as growth puts them there, leave those that were there
pub bytes_at-append : (bytes more : List ℕ) (a width : ℕ) → a + width ≤ length bytes
    → bytes_at (bytes ++ more) a width ≡ bytes_at bytes a width
bytes_at-append bytes more a width h =
    ap (take width) (drop-append-le a bytes more (omega arith))
    ∙ take-append-le width (drop a bytes) more (omega (arith, length-drop a bytes))

-- a write leaves the bytes below it and those behind it
pub bytes_at-overwritten_below : (bytes : List ℕ) (at : ℕ) (piece : List ℕ) (a width : ℕ) → a + width ≤ at
    → at + length piece ≤ length bytes → bytes_at (overwritten bytes at piece) a width ≡ bytes_at bytes a width
bytes_at-overwritten_below bytes at piece a width below h =
    let behind = drop (at + length piece) bytes in
    let before : a + width ≤ length (take at bytes) = omega (arith, length-take-le at bytes (omega arith)) in
    ap (λ (xs : List ℕ). take width (drop a xs)) (append_assoc (take at bytes) piece behind)
    ∙ bytes_at-append (take at bytes) (piece ++ behind) a width before
    ∙ sym (bytes_at-append (take at bytes) (drop at bytes) a width before)
    ∙ ap (λ (xs : List ℕ). take width (drop a xs)) (take-append-drop at bytes)

pub bytes_at-overwritten_behind : (bytes : List ℕ) (at : ℕ) (piece : List ℕ) (a width : ℕ) → at + length piece ≤ a
    → at + length piece ≤ length bytes → bytes_at (overwritten bytes at piece) a width ≡ bytes_at bytes a width
bytes_at-overwritten_behind bytes at piece a width behind h =
    let end = at + length piece in
    let start : a ≡ end + (a - end) = omega arith in
    let size : length (take at bytes ++ piece) ≡ end =
    omega (arith, length-append (take at bytes) piece, length-take-le at bytes (omega arith)) in
    let rest : drop end (overwritten bytes at piece) ≡ drop end bytes =
    drop_at (take at bytes ++ piece) (drop end bytes) end size in
    ap (λ (n : ℕ). take width (drop n (overwritten bytes at piece))) start
    ∙ ap (take width) (sym (drop-drop (a - end) end (overwritten bytes at piece)))
    ∙ ap (λ (xs : List ℕ). take width (drop (a - end) xs)) rest
    ∙ ap (take width) (drop-drop (a - end) end bytes)
    ∙ ap (λ (n : ℕ). take width (drop n bytes)) (sym start)
