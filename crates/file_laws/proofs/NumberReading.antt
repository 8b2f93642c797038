-- Numbers are read as they are spelled, whatever follows them.
use Rattle.std.proofs.Common.{◌≡◌, ℕ, suc, ◌+◌, ◌-◌, ◌*◌, ◌^◌, ◌<◌, ◌≤◌, inl, inr, List, [], ◌∷◌, ◌++◌, Result, Ok, Err, refl, ap, sym, arith, length, nat_lt, true, false, Bool, cond}
use Rattle.std.proofs.lemmas.Bool.{lt-ltb, le-ltb}
use Rattle.leb_numbers.specs.declared.leb.LebFault.{LebFault}
use Rattle.leb_numbers.specs.declared.leb.LebFault.TheVariants.{Short, Long, Bits}
use Rattle.leb_numbers.specs.Leb.{unsigned_at, signed_at, last_signed, above, IsUnsigned, IsSigned}

above_short : (b : ℕ) (r : Result ℕ LebFault) → (above b r ≡ Err Short → ⊥) → r ≡ Err Short → ⊥
above_short b (Ok x) h e = absurd (cc)
above_short b (Err d) h e = h e

-- what isn't short stays, whatever follows
pub unsigned_stays : (bits : ℕ) (a b : List ℕ) (at : ℕ) → ((unsigned_at bits a at).0 ≡ Err Short → ⊥) → unsigned_at bits (a ++ b) at ≡ unsigned_at bits a at
unfolding unsigned_at
unsigned_stays bits [] b at h = absurd (h refl)
unsigned_stays bits (x ∷ a) b at h =
    let P : Result ℕ LebFault × ℕ = cond (nat_lt x (2 ^ bits)) (Ok x, at + 1) (Err Bits, at + 1) in
    let X : Result ℕ LebFault × ℕ = unsigned_at (bits - 7) a (at + 1) in
    let Y : Result ℕ LebFault × ℕ = unsigned_at (bits - 7) (a ++ b) (at + 1) in
    let L : Result ℕ LebFault × ℕ = (Err Long, at + 1) in
    let more : Result ℕ LebFault × ℕ → Result ℕ LebFault × ℕ = λ z. (above x z.0, z.1) in
    let inner : (t : Bool) → ((cond t (more X) L).0 ≡ Err Short → ⊥) → cond t (more Y) L ≡ cond t (more X) L =
    λ t. elim t as (λ t. ((cond t (more X) L).0 ≡ Err Short → ⊥) → cond t (more Y) L ≡ cond t (more X) L) [
      | true ↦ λ k. ap more (unsigned_stays (bits - 7) a b (at + 1) (above_short x X.0 k))
      | false ↦ λ k. refl
    ] in
    let outer : (t : Bool) → ((cond t P (cond (nat_lt 7 bits) (more X) L)).0 ≡ Err Short → ⊥) → cond t P (cond (nat_lt 7 bits) (more Y) L) ≡ cond t P (cond (nat_lt 7 bits) (more X) L) =
    λ t. elim t as (λ t. ((cond t P (cond (nat_lt 7 bits) (more X) L)).0 ≡ Err Short → ⊥) → cond t P (cond (nat_lt 7 bits) (more Y) L) ≡ cond t P (cond (nat_lt 7 bits) (more X) L)) [
      | true ↦ λ k. refl
      | false ↦ λ k. inner (nat_lt 7 bits) k
    ] in
    outer (nat_lt x 128) h

pub signed_stays : (bits : ℕ) (a b : List ℕ) (at : ℕ) → ((signed_at bits a at).0 ≡ Err Short → ⊥) → signed_at bits (a ++ b) at ≡ signed_at bits a at
unfolding signed_at
signed_stays bits [] b at h = absurd (h refl)
signed_stays bits (x ∷ a) b at h =
    let P : Result ℕ LebFault × ℕ = (last_signed bits x, at + 1) in
    let X : Result ℕ LebFault × ℕ = signed_at (bits - 7) a (at + 1) in
    let Y : Result ℕ LebFault × ℕ = signed_at (bits - 7) (a ++ b) (at + 1) in
    let L : Result ℕ LebFault × ℕ = (Err Long, at + 1) in
    let more : Result ℕ LebFault × ℕ → Result ℕ LebFault × ℕ = λ z. (above x z.0, z.1) in
    let inner : (t : Bool) → ((cond t (more X) L).0 ≡ Err Short → ⊥) → cond t (more Y) L ≡ cond t (more X) L =
    λ t. elim t as (λ t. ((cond t (more X) L).0 ≡ Err Short → ⊥) → cond t (more Y) L ≡ cond t (more X) L) [
      | true ↦ λ k. ap more (signed_stays (bits - 7) a b (at + 1) (above_short x X.0 k))
      | false ↦ λ k. refl
    ] in
    let outer : (t : Bool) → ((cond t P (cond (nat_lt 7 bits) (more X) L)).0 ≡ Err Short → ⊥) → cond t P (cond (nat_lt 7 bits) (more Y) L) ≡ cond t P (cond (nat_lt 7 bits) (more X) L) =
    λ t. elim t as (λ t. ((cond t P (cond (nat_lt 7 bits) (more X) L)).0 ≡ Err Short → ⊥) → cond t P (cond (nat_lt 7 bits) (more Y) L) ≡ cond t P (cond (nat_lt 7 bits) (more X) L)) [
      | true ↦ λ k. refl
      | false ↦ λ k. inner (nat_lt 7 bits) k
    ] in
    outer (nat_lt x 128) h

-- no byte behind the last one is looked at
pub unsigned_ends : (bits : ℕ) (a : List ℕ) (at : ℕ) → (unsigned_at bits a at).1 ≤ at + length a
unfolding unsigned_at
unsigned_ends bits [] at = omega arith
unsigned_ends bits (x ∷ a) at =
    let X : Result ℕ LebFault × ℕ = unsigned_at (bits - 7) a (at + 1) in
    let more : X.1 ≤ at + 1 + length a = unsigned_ends (bits - 7) a (at + 1) in
    let P : Bool → Result ℕ LebFault × ℕ = λ t. cond t (Ok x, at + 1) (Err Bits, at + 1) in
    let Q : Bool → Result ℕ LebFault × ℕ = λ t. cond t (above x X.0, X.1) (Err Long, at + 1) in
    let R : Bool → Result ℕ LebFault × ℕ = λ t. cond t (P (nat_lt x (2 ^ bits))) (Q (nat_lt 7 bits)) in
    elim (nat_lt x 128) as (λ t. (R t).1 ≤ at + suc (length a)) [
      | true ↦ elim (nat_lt x (2 ^ bits)) as (λ t. (P t).1 ≤ at + suc (length a)) [ true ↦ omega arith | false ↦ omega arith ]
      | false ↦ elim (nat_lt 7 bits) as (λ t. (Q t).1 ≤ at + suc (length a)) [ true ↦ omega arith | false ↦ omega arith ]
    ]

pub signed_ends : (bits : ℕ) (a : List ℕ) (at : ℕ) → (signed_at bits a at).1 ≤ at + length a
unfolding signed_at
signed_ends bits [] at = omega arith
signed_ends bits (x ∷ a) at =
    let X : Result ℕ LebFault × ℕ = signed_at (bits - 7) a (at + 1) in
    let more : X.1 ≤ at + 1 + length a = signed_ends (bits - 7) a (at + 1) in
    let Q : Bool → Result ℕ LebFault × ℕ = λ t. cond t (above x X.0, X.1) (Err Long, at + 1) in
    let R : Bool → Result ℕ LebFault × ℕ = λ t. cond t (last_signed bits x, at + 1) (Q (nat_lt 7 bits)) in
    elim (nat_lt x 128) as (λ t. (R t).1 ≤ at + suc (length a)) [
      | true ↦ omega arith
      | false ↦ elim (nat_lt 7 bits) as (λ t. (Q t).1 ≤ at + suc (length a)) [ true ↦ omega arith | false ↦ omega arith ]
    ]

-- what is spelled is read
pub unsigned_again : (bits : ℕ) (front rest : List ℕ) (n at : ℕ) → IsUnsigned bits front n → unsigned_at bits (front ++ rest) at ≡ (Ok n, at + length front)
unfolding unsigned_at
unsigned_again bits [] rest n at h = absurd h
unsigned_again bits (b ∷ bs) rest n at (inl h) =
    rw (lt-ltb _ _ h.0, lt-ltb _ _ h.1, h.2, sym h.3) refl
unsigned_again bits (b ∷ bs) rest n at (inr h) =
    let value : b - 128 + 128 * h.3 ≡ n = omega arith in
    let place : at + 1 + length bs ≡ at + suc (length bs) = omega arith in
    rw (le-ltb _ _ h.0, lt-ltb _ _ h.2, unsigned_again (bits - 7) bs rest h.3 (at + 1) h.5) (rw (value, place) refl)

pub signed_again : (bits : ℕ) (front rest : List ℕ) (n at : ℕ) → IsSigned bits front n → signed_at bits (front ++ rest) at ≡ (Ok n, at + length front)
unfolding signed_at
signed_again bits [] rest n at h = absurd h
signed_again bits (b ∷ bs) rest n at (inl h) =
    rw (lt-ltb _ _ h.0, h.1, h.2) refl
signed_again bits (b ∷ bs) rest n at (inr h) =
    let value : b - 128 + 128 * h.3 ≡ n = omega arith in
    let place : at + 1 + length bs ≡ at + suc (length bs) = omega arith in
    rw (le-ltb _ _ h.0, lt-ltb _ _ h.2, signed_again (bits - 7) bs rest h.3 (at + 1) h.5) (rw (value, place) refl)

pub unsigned_some : (bits : ℕ) (bytes : List ℕ) (n : ℕ) → IsUnsigned bits bytes n → 0 < length bytes
unsigned_some bits [] n h = absurd h
unsigned_some bits (b ∷ bs) n h = omega arith

pub signed_some : (bits : ℕ) (bytes : List ℕ) (n : ℕ) → IsSigned bits bytes n → 0 < length bytes
signed_some bits [] n h = absurd h
signed_some bits (b ∷ bs) n h = omega arith
