-- One item at the front of bytes.
use Rattle.std.proofs.Common.{◌≡◌, ℕ, ◌+◌, ◌<◌, ◌⊎◌, List, [], ◌∷◌, ◌++◌, Result, Ok, Err, refl, ap, sym, ◌∙◌, arith, append-nil, length, length-append, inl, inr}
use Rattle.leb_numbers.specs.declared.leb.LebFault.{LebFault}
use Rattle.leb_numbers.specs.declared.leb.LebFault.TheVariants.{Short, Long, Bits}
use Rattle.leb_numbers.specs.Leb.{IsUnsigned, IsSigned, unsigned_at, signed_at}
use Rattle.wa_types.specs.Begun.{Item, a_byte, an_unsigned, a_signed, a_name, a_constant_of, IsItem, IsPart}
use Rattle.file_laws.proofs.NumberReading.{unsigned_stays, signed_stays, unsigned_ends, signed_ends, unsigned_again, signed_again, unsigned_some, signed_some}

short_or : (r : Result ℕ LebFault) → (r ≡ Err Short) ⊎ (r ≡ Err Short → ⊥)
short_or (Ok v) = inr (λ e. cc)
short_or (Err Short) = inl refl
short_or (Err Long) = inr (λ e. cc)
short_or (Err Bits) = inr (λ e. cc)

not_both : (v : ℕ) (r : Result ℕ LebFault) → r ≡ Ok v → r ≡ Err Short → ⊥
not_both v r e f = cc

ok_same : (m n : ℕ) (r : Result ℕ LebFault) → r ≡ Ok m → r ≡ Ok n → m ≡ n
ok_same m n r e f = cc

-- a number's front is short
unsigned_front : (bits : ℕ) (a b : List ℕ) (v : ℕ) → IsUnsigned bits (a ++ b) v → 0 < length b → (unsigned_at bits a 0).0 ≡ Err Short
unsigned_front bits a b v h some = elim (short_or (unsigned_at bits a 0).0) [
  | inl e ↦ e
  | inr n ↦
      let whole : unsigned_at bits (a ++ b) 0 ≡ (Ok v, 0 + length (a ++ b)) = ap (λ s. unsigned_at bits s 0) (sym (append-nil (a ++ b))) ∙ unsigned_again bits (a ++ b) [] v 0 h in
      let place : (unsigned_at bits a 0).1 ≡ 0 + length (a ++ b) = ap (λ p. p.1) (sym (unsigned_stays bits a b 0 n) ∙ whole) in
      absurd (omega (arith, place, unsigned_ends bits a 0, length-append a b))
]

signed_front : (bits : ℕ) (a b : List ℕ) (v : ℕ) → IsSigned bits (a ++ b) v → 0 < length b → (signed_at bits a 0).0 ≡ Err Short
signed_front bits a b v h some = elim (short_or (signed_at bits a 0).0) [
  | inl e ↦ e
  | inr n ↦
      let whole : signed_at bits (a ++ b) 0 ≡ (Ok v, 0 + length (a ++ b)) = ap (λ s. signed_at bits s 0) (sym (append-nil (a ++ b))) ∙ signed_again bits (a ++ b) [] v 0 h in
      let place : (signed_at bits a 0).1 ≡ 0 + length (a ++ b) = ap (λ p. p.1) (sym (signed_stays bits a b 0 n) ∙ whole) in
      absurd (omega (arith, place, signed_ends bits a 0, length-append a b))
]

byte_front : (v : ℕ) (a b : List ℕ) → a ++ b ≡ v ∷ [] → 0 < length b → a ≡ []
byte_front v [] b e some = refl
byte_front v (x ∷ a) b e some = absurd (omega (arith, ap length e, length-append (x ∷ a) b))

-- a proper front of an item is a part
pub item_front : (i : Item) (a b : List ℕ) (v : ℕ) → IsItem i (a ++ b) v → 0 < length b → IsPart i a
item_front a_byte a b v h some = byte_front v a b h some
item_front an_unsigned a b v h some = unsigned_front 32 a b v h some
item_front (a_signed bits) a b v h some = signed_front bits a b v h some
item_front (a_name n) a b v h some = omega (arith, h.1, length-append a b)
item_front (a_constant_of n) a b v h some = omega (arith, h.1, length-append a b)

no_front : (a b : List ℕ) → a ++ b ≡ [] → a ≡ []
no_front [] b e = refl
no_front (x ∷ a) b e = absurd (omega (arith, ap length e, length-append (x ∷ a) b))

-- a front of a part is a part
pub part_front : (i : Item) (a b : List ℕ) → IsPart i (a ++ b) → IsPart i a
part_front a_byte a b h = no_front a b h
part_front an_unsigned a b h = elim (short_or (unsigned_at 32 a 0).0) [
  | inl e ↦ e
  | inr n ↦ absurd (n (sym (ap (λ p. p.0) (unsigned_stays 32 a b 0 n)) ∙ h))
]
part_front (a_signed bits) a b h = elim (short_or (signed_at bits a 0).0) [
  | inl e ↦ e
  | inr n ↦ absurd (n (sym (ap (λ p. p.0) (signed_stays bits a b 0 n)) ∙ h))
]
part_front (a_name n) a b h = omega (arith, h, length-append a b)
part_front (a_constant_of n) a b h = omega (arith, h, length-append a b)

pub item_some : (i : Item) (a : List ℕ) (v : ℕ) → IsItem i a v → 0 < length a
item_some a_byte a v h = omega (arith, ap length h)
item_some an_unsigned a v h = unsigned_some 32 a v h
item_some (a_signed bits) a v h = signed_some bits a v h
item_some (a_name n) a v h = omega (arith, h.0, h.1)
item_some (a_constant_of n) a v h = omega (arith, h.0, h.1)

-- what begins with an item is no part
pub item_whole : (i : Item) (a b : List ℕ) (v : ℕ) → IsItem i a v → IsPart i (a ++ b) → ⊥
item_whole a_byte a b v h p = omega (arith, ap length h, ap length p, length-append a b)
item_whole an_unsigned a b v h p = not_both v _ (ap (λ t. t.0) (unsigned_again 32 a b v 0 h)) p
item_whole (a_signed bits) a b v h p = not_both v _ (ap (λ t. t.0) (signed_again bits a b v 0 h)) p
item_whole (a_name n) a b v h p = omega (arith, h.1, p, length-append a b)
item_whole (a_constant_of n) a b v h p = omega (arith, h.1, p, length-append a b)

byte_one : (a b c d : List ℕ) (v w : ℕ) → a ≡ v ∷ [] → c ≡ w ∷ [] → a ++ b ≡ c ++ d → (v ≡ w) × (length a ≡ length c)
byte_one a b c d v w h k e =
    let both : (v ∷ []) ++ b ≡ (w ∷ []) ++ d = sym (ap (λ z. z ++ b) h) ∙ e ∙ ap (λ z. z ++ d) k in
    ((let p : v ≡ w = cc in p), ap length h ∙ sym (ap length k))

unsigned_one : (bits : ℕ) (a b c d : List ℕ) (v w : ℕ) → IsUnsigned bits a v → IsUnsigned bits c w → a ++ b ≡ c ++ d → (v ≡ w) × (length a ≡ length c)
unsigned_one bits a b c d v w h k e =
    let same = sym (unsigned_again bits a b v 0 h) ∙ ap (λ s. unsigned_at bits s 0) e ∙ unsigned_again bits c d w 0 k in
    let len : 0 + length a ≡ 0 + length c = ap (λ p. p.1) same in
    (ok_same v w _ refl (ap (λ p. p.0) same), omega (arith, len))

signed_one : (bits : ℕ) (a b c d : List ℕ) (v w : ℕ) → IsSigned bits a v → IsSigned bits c w → a ++ b ≡ c ++ d → (v ≡ w) × (length a ≡ length c)
signed_one bits a b c d v w h k e =
    let same = sym (signed_again bits a b v 0 h) ∙ ap (λ s. signed_at bits s 0) e ∙ signed_again bits c d w 0 k in
    let len : 0 + length a ≡ 0 + length c = ap (λ p. p.1) same in
    (ok_same v w _ refl (ap (λ p. p.0) same), omega (arith, len))

-- one item of a kind stands at the front
pub one_item : (i : Item) (a b c d : List ℕ) (v w : ℕ) → IsItem i a v → IsItem i c w → a ++ b ≡ c ++ d → (v ≡ w) × (length a ≡ length c)
one_item a_byte a b c d v w h k e = byte_one a b c d v w h k e
one_item an_unsigned a b c d v w h k e = unsigned_one 32 a b c d v w h k e
one_item (a_signed bits) a b c d v w h k e = signed_one bits a b c d v w h k e
one_item (a_name n) a b c d v w h k e = (h.3 ∙ sym k.3, h.1 ∙ sym k.1)
one_item (a_constant_of n) a b c d v w h k e = (h.2 ∙ sym k.2, h.1 ∙ sym k.1)

-- where two cuts of one list stand
pub meet : (a b c d : List ℕ) → a ++ b ≡ c ++ d → ((e : List ℕ) × (c ≡ a ++ e) × (b ≡ e ++ d)) ⊎ ((e : List ℕ) × (0 < length e) × (a ≡ c ++ e) × (d ≡ e ++ b))
meet [] b c d h = inl (c, refl, h)
meet (x ∷ a) b [] d h = inr (x ∷ a, omega arith, refl, sym h)
meet (x ∷ a) b (y ∷ c) d h =
    let head : x ≡ y = cc in
    let tail : a ++ b ≡ c ++ d = cc in
    elim (meet a b c d tail) [
      | inl m ↦ inl (m.0, (let p : c ≡ a ++ m.0 = m.1 in cc), m.2)
      | inr m ↦ inr (m.0, m.1, (let p : a ≡ c ++ m.0 = m.2 in cc), m.3)
    ]

pub same_cut : (a b c d : List ℕ) → a ++ b ≡ c ++ d → length a ≡ length c → (a ≡ c) × (b ≡ d)
same_cut [] b [] d h e = (refl, h)
same_cut [] b (y ∷ c) d h e = absurd (omega arith)
same_cut (x ∷ a) b [] d h e = absurd (omega arith)
same_cut (x ∷ a) b (y ∷ c) d h e =
    let head : x ≡ y = cc in
    let tail : a ++ b ≡ c ++ d = cc in
    let more = same_cut a b c d tail (omega arith) in
    ((let p : a ≡ c = more.0 in cc), more.1)

pub place_of : (at : ℕ) (a c d : List ℕ) → a ≡ c ++ d → at + length a ≡ at + length c + length d
place_of at a c d e = omega (arith, ap length e, length-append c d)

pub some_left : (a : List ℕ) → (a ≡ []) ⊎ (0 < length a)
some_left [] = inl refl
some_left (x ∷ a) = inr (omega arith)
