-- How long what is written is.
use Rattle.std.proofs.Common.{ℕ, zero, suc, ◌+◌, ◌-◌, ◌*◌, ◌/◌, ◌%◌, ◌≤◌, ◌^◌, min, List, [], ◌∷◌, ◌++◌, Bool, true, false, cond, ap, sym, subst, length, length-append, arith, nat_lt, nat_le, inl, inr}
use Rattle.std.specs.List.{All, flat_map}
use Rattle.std.proofs.lemmas.Bool.{cases_lt}
use Rattle.std.proofs.lemmas.List.Concat.{flat_map-append}
use Rattle.std.proofs.lemmas.List.Elements.{All-head, All-tail}
use Rattle.leb_numbers.proofs.UnsignedSpelling.{spelled_low, spelled_high}
use Rattle.leb_numbers.specs.Leb.{spelled, shortest, signed_spelled, shortest_signed}
use Rattle.wa_types.specs.Encoding.{vector, sized, section}

-- so many bytes at most
spelled_length : (k n : ℕ) → length (spelled k n) ≤ k
unfolding spelled
spelled_length zero n = omega arith
spelled_length (suc k) n = elim (cases_lt n 128) [
  | inl low ↦ subst (λ (s : List ℕ). length s ≤ suc k) (sym (spelled_low k n low)) (omega arith)
  | inr high ↦ subst (λ (s : List ℕ). length s ≤ suc k) (sym (spelled_high k n high)) (let h = spelled_length k (n / 128) in omega (arith, h))
]

pub shortest_length : (n : ℕ) → length (shortest n) ≤ 10
shortest_length n = spelled_length 10 n

either_short : (b : Bool) (x y : List ℕ) (n : ℕ) → length x ≤ n → length y ≤ n → length (cond b x y) ≤ n
either_short true x y n h k = h
either_short false x y n h k = k

signed_length : (k bits n : ℕ) → length (signed_spelled k bits n) ≤ k
unfolding signed_spelled
signed_length zero bits n = omega arith
signed_length (suc k) bits n =
    let last : List ℕ = n ∷ [] in
    let minus : List ℕ = (n + 128 - 2 ^ bits) ∷ [] in
    let more : List ℕ = (n % 128 + 128) ∷ signed_spelled k (bits - 7) (n / 128) in
    let h = signed_length k (bits - 7) (n / 128) in
    let a : length last ≤ suc k = omega arith in
    let b : length minus ≤ suc k = omega arith in
    let c : length more ≤ suc k = omega (arith, h) in
    either_short (nat_lt n (min 64 (2 ^ (bits - 1)))) last (cond (nat_le (2 ^ bits) (n + 64)) minus more) (suc k) a (either_short (nat_le (2 ^ bits) (n + 64)) minus more (suc k) b c)

pub shortest_signed_length : (bits n : ℕ) → length (shortest_signed bits n) ≤ 10
shortest_signed_length bits n = signed_length 10 bits n

-- a section that gets more entries
pub section_grows : {X : Type 0} → (id : ℕ) (entry : X → List ℕ) (xs ys : List X) → length (section id entry (xs ++ ys)) ≤ length (section id entry xs) + (length (flat_map entry ys) + 21)
section_grows id entry [] [] = omega arith
section_grows id entry [] (y ∷ ys) =
    let content : List ℕ = vector entry (y ∷ ys) in
    omega (
      arith,
      length-append (shortest (length content)) content,
      length-append (shortest (length (y ∷ ys))) (flat_map entry (y ∷ ys)),
      shortest_length (length content),
      shortest_length (length (y ∷ ys)),
    )
section_grows id entry (x ∷ xs) ys =
    let old : List ℕ = vector entry (x ∷ xs) in
    let new : List ℕ = vector entry (x ∷ xs ++ ys) in
    omega (
      arith,
      length-append (shortest (length old)) old,
      length-append (shortest (length (x ∷ xs))) (flat_map entry (x ∷ xs)),
      length-append (shortest (length new)) new,
      length-append (shortest (length (x ∷ xs ++ ys))) (flat_map entry (x ∷ xs ++ ys)),
      ap length (flat_map-append entry (x ∷ xs) ys),
      length-append (flat_map entry (x ∷ xs)) (flat_map entry ys),
      shortest_length (length new),
      shortest_length (length (x ∷ xs ++ ys)),
    )

-- entries of so many bytes at most
pub entries_length : {X : Type 0} → (entry : X → List ℕ) (most : ℕ) (xs : List X) → All (λ x. length (entry x) ≤ most) xs → length (flat_map entry xs) ≤ length xs * most
entries_length entry most [] h = omega arith
entries_length entry most (x ∷ xs) h =
    let first = All-head (λ x. length (entry x) ≤ most) x xs h in
    let rest = entries_length entry most xs (All-tail (λ x. length (entry x) ≤ most) x xs h) in
    omega (arith, length-append (entry x) (flat_map entry xs), first, rest)

pub vector_length : {X : Type 0} → (entry : X → List ℕ) (xs : List X) → length (vector entry xs) ≤ 10 + length (flat_map entry xs)
vector_length entry xs = omega (arith, length-append (shortest (length xs)) (flat_map entry xs), shortest_length (length xs))

pub sized_length : (bytes : List ℕ) → length (sized bytes) ≤ 10 + length bytes
sized_length bytes = omega (arith, length-append (shortest (length bytes)) bytes, shortest_length (length bytes))

pub section_length : {X : Type 0} → (id : ℕ) (entry : X → List ℕ) (xs : List X) → length (section id entry xs) ≤ 21 + length (flat_map entry xs)
section_length id entry [] = omega arith
section_length id entry (x ∷ xs) = omega (arith, sized_length (vector entry (x ∷ xs)), vector_length entry (x ∷ xs))

-- a section holds its entries
pub entries_within : {X : Type 0} → (id : ℕ) (entry : X → List ℕ) (xs : List X) → length (flat_map entry xs) ≤ length (section id entry xs)
entries_within id entry [] = omega arith
entries_within id entry (x ∷ xs) =
    let content : List ℕ = vector entry (x ∷ xs) in
    omega (arith, length-append (shortest (length content)) content, length-append (shortest (length (x ∷ xs))) (flat_map entry (x ∷ xs)))
