-- Goals of one item, and of few.
use Rattle.std.proofs.Common.{◌≡◌, ℕ, suc, zero, ◌+◌, ◌<◌, ◌≤◌, ◌⊎◌, List, [], ◌∷◌, ◌++◌, Option, Some, None, refl, ap, sym, ◌∙◌, subst, arith, append-nil, length, Bool, true, false, inl, inr, nat_eq, nat_le, eqb-true, IsTrue, IsUtf8, map}
use Rattle.std.proofs.lemmas.Bool.{leb-true}
use Rattle.std.specs.Option.{option_map}
use Rattle.wa_types.specs.declared.syntax.Space.{Space}
use Rattle.wa_types.specs.declared.syntax.Space.TheVariants.{Func as a_func, Table as a_table, Memory as a_memory, Global as a_global}
use Rattle.leb_numbers.specs.Leb.{IsUnsigned}
use Rattle.wa_types.specs.Encoding.{space_byte, mutable_byte}
use Rattle.wa_types.specs.Opcodes.{is_value_type, is_block_type, zeros_of}
use Rattle.wa_types.specs.Binary.{bulk, RawKind, raw_func, raw_table, raw_memory, raw_global}
use Rattle.wa_types.specs.Begun.{Goal, exact, number, name, value_type, block_type, mutable, import_kind, space, limits, signed, bulk_number, name_bytes, float_bytes, Item, a_byte, an_unsigned, a_signed, a_name, a_constant_of, IsItem, wants, next, behind_flag, behind_kind, name_of}
use Rattle.wa_types.specs.Spells.{◌▸◌, Exactly, Number, SignedNumber, Text, ValueType, BlockType, Maximum, LimitsOf, TableType, GlobalType, ImmediatesOf, ImportKindOf}
use Rattle.file_laws.proofs.GoalReads.{Any, Reads, ReadsNext, reads_none, reads_then, reads_as, Begins, reads_first, next_where}

-- an item and nothing behind it
pub alone : (i : Item) (at : ℕ) (bytes : List ℕ) → Begins i (λ v k. Exactly []) at bytes → (v : ℕ) × IsItem i bytes v
alone i at bytes b = (b.value, subst (λ z. IsItem i z b.value) (sym (b.whole ∙ ap (λ z. b.front ++ z) b.follows ∙ append-nil b.front)) b.is_item)

pub with_nothing : (i : Item) (at v : ℕ) (bytes : List ℕ) → IsItem i bytes v → Begins i (λ v k. Exactly []) at bytes
with_nothing i at v bytes h = record { front = bytes; back = []; value = v; whole = sym (append-nil bytes); is_item = h; follows = refl }

pub reads_number : Reads (number ∷ []) (Any Number)
unfolding next
reads_number = reads_as _ (Begins an_unsigned (λ v k. Exactly [])) (Any Number) (λ at a h. alone an_unsigned at a h) (λ at a h. with_nothing an_unsigned at h.0 a h.1)
    (reads_first number (λ v k. Exactly []) refl refl (λ v k. reads_none))

pub reads_signed : (bits : ℕ) → Reads (signed bits ∷ []) (Any (SignedNumber bits))
unfolding next
reads_signed bits = reads_as _ (Begins (a_signed bits) (λ v k. Exactly [])) (Any (SignedNumber bits)) (λ at a h. alone (a_signed bits) at a h) (λ at a h. with_nothing (a_signed bits) at h.0 a h.1)
    (reads_first (signed bits) (λ v k. Exactly []) refl refl (λ v k. reads_none))

-- a byte that passes a test
abbrev Tested : (test : ℕ → Bool) → (v at : ℕ) → ℕ → List ℕ → Type 0
Tested test v k at bytes = IsTrue (test v) × Exactly [] at bytes

tested_byte : (test : ℕ → Bool) (at : ℕ) (bytes : List ℕ) → Begins a_byte (Tested test) at bytes → (v : ℕ) × IsTrue (test v) × (bytes ≡ v ∷ [])
tested_byte test at bytes b = (b.value, b.follows.0, b.whole ∙ ap (λ z. b.front ++ z) b.follows.1 ∙ append-nil b.front ∙ b.is_item)

with_test : (test : ℕ → Bool) (at v : ℕ) (bytes : List ℕ) → IsTrue (test v) → bytes ≡ v ∷ [] → Begins a_byte (Tested test) at bytes
with_test test at v bytes h e = record { front = v ∷ []; back = []; value = v; whole = e; is_item = refl; follows = (h, refl) }

reads_tested : (g : Goal) (test : ℕ → Bool) → wants g ≡ a_byte → Reads (g ∷ []) (Begins (wants g) (Tested test)) → Reads (g ∷ []) (λ at bytes. (v : ℕ) × IsTrue (test v) × (bytes ≡ v ∷ []))
reads_tested g test w r =
    reads_as _ (Begins a_byte (Tested test)) _ (λ at a h. tested_byte test at a h) (λ at a h. with_test test at h.0 a h.1 h.2) (subst (λ i. Reads (g ∷ []) (Begins i (Tested test))) w r)

same_byte : (v b : ℕ) → v ≡ b → nat_eq v b ≡ true
same_byte v b e = subst (λ z. nat_eq v z ≡ true) e (grind (arith))

pub reads_exact : (b : ℕ) → Reads (exact b ∷ []) (Exactly (b ∷ []))
unfolding next
reads_exact b =
    reads_as _ _ (Exactly (b ∷ [])) (λ at a h. h.2 ∙ ap (λ z. z ∷ []) (eqb-true h.0 b h.1)) (λ at a h. (b, same_byte b b refl, h))
    (reads_tested (exact b) (λ v. nat_eq v b) refl (reads_first (exact b) (Tested (λ v. nat_eq v b)) refl refl (λ v k. next_where (nat_eq v b) [] (Exactly []) reads_none)))

pub reads_value_type : Reads (value_type ∷ []) (Any ValueType)
unfolding next
reads_value_type =
    reads_as _ _ (Any ValueType) (λ at a h. (record { place = at; byte = h.0 }, (h.1, (refl, h.2)))) (λ at a h. (h.0.byte, h.1.0, h.1.1.1))
    (reads_tested value_type is_value_type refl (reads_first value_type (Tested is_value_type) refl refl (λ v k. next_where (is_value_type v) [] (Exactly []) reads_none)))

pub reads_block_type : Reads (block_type ∷ []) (Any BlockType)
unfolding next
reads_block_type =
    reads_as _ _ (Any BlockType) (λ at a h. (record { place = at; byte = h.0 }, (h.1, (refl, h.2)))) (λ at a h. (h.0.byte, h.1.0, h.1.1.1))
    (reads_tested block_type is_block_type refl (reads_first block_type (Tested is_block_type) refl refl (λ v k. next_where (is_block_type v) [] (Exactly []) reads_none)))

-- whether it is mutable
abbrev pub Mutability : Bool → ℕ → List ℕ → Type 0
Mutability m = Exactly (mutable_byte m ∷ [])

one_or_none : (v : ℕ) → v ≤ 1 → (m : Bool) × (mutable_byte m ≡ v)
one_or_none zero h = (false, refl)
one_or_none (suc zero) h = (true, refl)
one_or_none (suc (suc v)) h = absurd (omega (arith, h))

mutable_small : (m : Bool) → IsTrue (nat_le (mutable_byte m) 1)
mutable_small false = refl
mutable_small true = refl

pub reads_mutable : Reads (mutable ∷ []) (Any Mutability)
unfolding next
reads_mutable =
    reads_as _ _ (Any Mutability) (λ at a h. let m = one_or_none h.0 (leb-true h.0 1 h.1) in (m.0, h.2 ∙ ap (λ z. z ∷ []) (sym m.1))) (λ at a h. (mutable_byte h.0, mutable_small h.0, h.1))
    (reads_tested mutable (λ v. nat_le v 1) refl (reads_first mutable (Tested (λ v. nat_le v 1)) refl refl (λ v k. next_where (nat_le v 1) [] (Exactly []) reads_none)))

-- the space of an export
abbrev pub SpaceOf : Space → ℕ → List ℕ → Type 0
SpaceOf s = Exactly (space_byte s ∷ [])

one_of_four : (v : ℕ) → v ≤ 3 → (s : Space) × (space_byte s ≡ v)
one_of_four zero h = (a_func, refl)
one_of_four (suc zero) h = (a_table, refl)
one_of_four (suc (suc zero)) h = (a_memory, refl)
one_of_four (suc (suc (suc zero))) h = (a_global, refl)
one_of_four (suc (suc (suc (suc v)))) h = absurd (omega (arith, h))

space_small : (s : Space) → IsTrue (nat_le (space_byte s) 3)
space_small a_func = refl
space_small a_table = refl
space_small a_memory = refl
space_small a_global = refl

pub reads_space : Reads (space ∷ []) (Any SpaceOf)
unfolding next
reads_space =
    reads_as _ _ (Any SpaceOf) (λ at a h. let m = one_of_four h.0 (leb-true h.0 3 h.1) in (m.0, h.2 ∙ ap (λ z. z ∷ []) (sym m.1))) (λ at a h. (space_byte h.0, space_small h.0, h.1))
    (reads_tested space (λ v. nat_le v 3) refl (reads_first space (Tested (λ v. nat_le v 3)) refl refl (λ v k. next_where (nat_le v 3) [] (Exactly []) reads_none)))

pub tested : (v k : ℕ) → (v ≡ k) ⊎ (nat_eq v k ≡ false)
tested v k = by_bool (nat_eq v k) refl where
  by_bool : (t : Bool) → nat_eq v k ≡ t → (v ≡ k) ⊎ (nat_eq v k ≡ false)
  by_bool true e = inl (eqb-true v k e)
  by_bool false e = inr e

-- behind the flag of limits
pub data Flagged (v at : ℕ) (bytes : List ℕ) : Type 0 where
  without : v ≡ 0x00 → Any Number at bytes → Flagged v at bytes
  with_high : v ≡ 0x01 → (Any Number ▸ Any Number) at bytes → Flagged v at bytes

flag_none : (v : ℕ) → nat_eq v 0 ≡ false → nat_eq v 1 ≡ false → (at : ℕ) (bytes : List ℕ) → Flagged v at bytes → ⊥
flag_none v a b at bytes (without e h) = let p : true ≡ false = sym (same_byte v 0 e) ∙ a in cc
flag_none v a b at bytes (with_high e h) = let p : true ≡ false = sym (same_byte v 1 e) ∙ b in cc

flag_low : (at : ℕ) (bytes : List ℕ) → Flagged 0 at bytes → Any Number at bytes
flag_low at bytes (without e h) = h
flag_low at bytes (with_high e h) = absurd (omega (arith, e))

flag_high : (at : ℕ) (bytes : List ℕ) → Flagged 1 at bytes → (Any Number ▸ Any Number) at bytes
flag_high at bytes (without e h) = absurd (omega (arith, e))
flag_high at bytes (with_high e h) = h

pub next_flag : (v : ℕ) → ReadsNext (behind_flag v) (Flagged v)
next_flag v = elim (tested v 0) [
  | inl e ↦ subst (λ z. ReadsNext (behind_flag z) (Flagged z)) (sym e) (reads_as _ (Any Number) (Flagged 0) (λ at a h. without refl h) flag_low reads_number)
  | inr a ↦ elim (tested v 1) [
    | inl e ↦ subst (λ z. ReadsNext (behind_flag z) (Flagged z)) (sym e) (reads_as _ (Any Number ▸ Any Number) (Flagged 1) (λ at a h. with_high refl h) flag_high
        (reads_then number (number ∷ []) (Any Number) (Any Number) reads_number reads_number))
    | inr b ↦ rw (a, b) (flag_none v a b)
  ]
]

-- limits, from their flag
pub limits_from : (at : ℕ) (bytes : List ℕ) → Begins a_byte (λ v k. Flagged v) at bytes → Any LimitsOf at bytes
limits_from at bytes b = by_flag b.value (subst (λ z. bytes ≡ z ++ b.back) b.is_item b.whole) (subst (λ z. Flagged b.value (at + length z) b.back) b.is_item b.follows) where
  by_flag : (v : ℕ) → bytes ≡ v ∷ b.back → Flagged v (at + 1) b.back → Any LimitsOf at bytes
  by_flag v e (without f h) = (record { min = h.0; max = None }, (0x00 ∷ [], b.back, e ∙ ap (λ z. z ∷ b.back) f, refl, h.1))
  by_flag v e (with_high f h) = (record { min = h.3.0; max = Some h.4.0 }, (0x01 ∷ [], b.back, e ∙ ap (λ z. z ∷ b.back) f, refl, (h.0, h.1, h.2, h.3.1, h.4.1)))

limits_to_max : (at low : ℕ) (high : Option ℕ) (bytes : List ℕ) → Maximum low high at bytes → Begins a_byte (λ v k. Flagged v) at bytes
limits_to_max at low None bytes h = record {
  front = 0x00 ∷ [];
  back = h.1;
  value = 0x00;
  whole = h.2
      ∙ ap (λ z. z ++ h.1) h.3;
  is_item = refl;
  follows = without refl (low, subst (λ z. Number low (at + length z) h.1) h.3 h.4);
}
limits_to_max at low (Some high) bytes h =
    let t = subst (λ z. (Number low ▸ Number high) (at + length z) h.1) h.3 h.4 in
    record { front = 0x01 ∷ []; back = h.1; value = 0x01; whole = h.2 ∙ ap (λ z. z ++ h.1) h.3; is_item = refl; follows = with_high refl (t.0, t.1, t.2, (low, t.3), (high, t.4)) }

pub limits_to : (at : ℕ) (bytes : List ℕ) → Any LimitsOf at bytes → Begins a_byte (λ v k. Flagged v) at bytes
limits_to at bytes h = limits_to_max at h.0.min h.0.max bytes h.1

pub reads_limits : Reads (limits ∷ []) (Any LimitsOf)
unfolding next
reads_limits = reads_as _ (Begins a_byte (λ v k. Flagged v)) (Any LimitsOf) limits_from limits_to (reads_first limits (λ v k. Flagged v) refl refl (λ v k. next_flag v))

-- a name of so many bytes
abbrev pub NameOf : ℕ → ℕ → List ℕ → Type 0
NameOf n at bytes = (length bytes ≡ n) × IsUtf8 bytes

name_some : (n : ℕ) → Reads (name_bytes (suc n) ∷ []) (NameOf (suc n))
unfolding next
name_some n = reads_as _ (Begins (a_name (suc n)) (λ v k. Exactly [])) (NameOf (suc n))
    (λ at a h. let i = alone (a_name (suc n)) at a h in (i.1.1, i.1.2))
    (λ at a h. with_nothing (a_name (suc n)) at 0 a (omega arith, h.0, h.1, refl))
    (reads_first (name_bytes (suc n)) (λ v k. Exactly []) refl refl (λ v k. reads_none))

none_long : (a : List ℕ) → length a ≡ 0 → a ≡ []
none_long [] e = refl
none_long (x ∷ a) e = absurd (omega (arith, e))

some_name : (n : ℕ) → name_of (suc n) ≡ name_bytes (suc n) ∷ []
some_name n = let e : nat_eq (suc n) 0 ≡ false = grind (arith) in rw e refl

pub reads_name_of : (n : ℕ) → Reads (name_of n) (NameOf n)
reads_name_of zero = reads_as [] (Exactly []) (NameOf 0) (λ at a h. (ap length h, subst IsUtf8 (sym h) ([], (refl, refl)))) (λ at a h. none_long a h.0) reads_none
reads_name_of (suc n) = subst (λ z. Reads z (NameOf (suc n))) (sym (some_name n)) (name_some n)

pub text_from : (at : ℕ) (bytes : List ℕ) → Begins an_unsigned (λ v k. NameOf v) at bytes → Any Text at bytes
text_from at bytes b = (b.back, (b.front, b.back, b.whole, subst (IsUnsigned 32 b.front) (sym b.follows.0) b.is_item, (refl, b.follows.1)))

pub text_to : (at : ℕ) (bytes : List ℕ) → Any Text at bytes → Begins an_unsigned (λ v k. NameOf v) at bytes
text_to at bytes h =
    let t = h.1 in
    record { front = t.0; back = t.1; value = length h.0; whole = t.2; is_item = t.3; follows = (ap length t.4.0, subst IsUtf8 (sym t.4.0) t.4.1) }

pub reads_name : Reads (name ∷ []) (Any Text)
unfolding next
reads_name = reads_as _ (Begins an_unsigned (λ v k. NameOf v)) (Any Text) text_from text_to (reads_first name (λ v k. NameOf v) refl refl (λ v k. reads_name_of v))

-- the bytes of a float
pub reads_float : (n : ℕ) → 0 < n → Reads (float_bytes n ∷ []) (λ at bytes. length bytes ≡ n)
unfolding next
reads_float n some = reads_as _ (Begins (a_constant_of n) (λ v k. Exactly [])) _
    (λ at a h. (alone (a_constant_of n) at a h).1.1)
    (λ at a h. with_nothing (a_constant_of n) at 0 a (some, h, refl))
    (reads_first (float_bytes n) (λ v k. Exactly []) refl refl (λ v k. reads_none))

-- ---- the number of a copy or a fill, and its zero bytes

reads_bytes : (zs : List ℕ) → Reads (map exact zs) (Exactly zs)
reads_bytes [] = reads_none
reads_bytes (z ∷ zs) = reads_as (map exact (z ∷ zs)) (Exactly (z ∷ []) ▸ Exactly zs) (Exactly (z ∷ zs))
    (λ at a h. h.2 ∙ ap (λ u. u ++ h.1) h.3 ∙ ap (λ u. z ∷ u) h.4)
    (λ at a h. (z ∷ [], zs, h, refl, refl))
    (reads_then (exact z) (map exact zs) (Exactly (z ∷ [])) (Exactly zs) (reads_exact z) (reads_bytes zs))

-- what stands behind such a number
abbrev Zeros : ℕ → ℕ → List ℕ → Type 0
Zeros v at bytes = zeros_of v ≡ Some bytes

no_zeros : (o : Option (List ℕ)) (zs : List ℕ) → o ≡ None → o ≡ Some zs → ⊥
no_zeros o zs e f = cc

same_zeros : (o : Option (List ℕ)) (zs ys : List ℕ) → o ≡ Some zs → o ≡ Some ys → ys ≡ zs
same_zeros o zs ys e f = cc

next_zeros : (v : ℕ) → ReadsNext (option_map (map exact) (zeros_of v)) (Zeros v)
next_zeros v = by_zeros (zeros_of v) refl where
  by_zeros : (o : Option (List ℕ)) → zeros_of v ≡ o → ReadsNext (option_map (map exact) o) (Zeros v)
  by_zeros None e = λ at bytes h. no_zeros (zeros_of v) bytes e h
  by_zeros (Some zs) e = reads_as (map exact zs) (Exactly zs) (Zeros v) (λ at a h. e ∙ ap (λ z. Some z) (sym h)) (λ at a h. same_zeros (zeros_of v) zs a e h) (reads_bytes zs)

pub reads_bulk : Reads (bulk_number ∷ []) (Any (λ n. ImmediatesOf (bulk n)))
unfolding next
reads_bulk = reads_as _ (Begins an_unsigned (λ v k. Zeros v)) (Any (λ n. ImmediatesOf (bulk n)))
    (λ at a b. (b.value, (b.front, b.back, b.whole, b.is_item, b.follows)))
    (λ at a h.
    let t = h.1 in
    record { front = t.0; back = t.1; value = h.0; whole = t.2; is_item = t.3; follows = t.4 })
    (reads_first bulk_number (λ v k. Zeros v) refl refl (λ v k. next_zeros v))

-- behind the byte of an import's kind
pub data Kinded (v at : ℕ) (bytes : List ℕ) : Type 0 where
  kind_func : v ≡ 0x00 → Any Number at bytes → Kinded v at bytes
  kind_table : v ≡ 0x01 → (Exactly (0x70 ∷ []) ▸ Any LimitsOf) at bytes → Kinded v at bytes
  kind_memory : v ≡ 0x02 → Any LimitsOf at bytes → Kinded v at bytes
  kind_global : v ≡ 0x03 → (Any ValueType ▸ Any Mutability) at bytes → Kinded v at bytes

kind_none : (v : ℕ) → nat_eq v 0 ≡ false → nat_eq v 1 ≡ false → nat_eq v 2 ≡ false → nat_eq v 3 ≡ false → (at : ℕ) (bytes : List ℕ) → Kinded v at bytes → ⊥
kind_none v a b c d at bytes (kind_func e h) = let p : true ≡ false = sym (same_byte v 0 e) ∙ a in cc
kind_none v a b c d at bytes (kind_table e h) = let p : true ≡ false = sym (same_byte v 1 e) ∙ b in cc
kind_none v a b c d at bytes (kind_memory e h) = let p : true ≡ false = sym (same_byte v 2 e) ∙ c in cc
kind_none v a b c d at bytes (kind_global e h) = let p : true ≡ false = sym (same_byte v 3 e) ∙ d in cc

of_func : (at : ℕ) (bytes : List ℕ) → Kinded 0 at bytes → Any Number at bytes
of_func at bytes (kind_func e h) = h
of_func at bytes (kind_table e h) = absurd (omega (arith, e))
of_func at bytes (kind_memory e h) = absurd (omega (arith, e))
of_func at bytes (kind_global e h) = absurd (omega (arith, e))

of_table : (at : ℕ) (bytes : List ℕ) → Kinded 1 at bytes → (Exactly (0x70 ∷ []) ▸ Any LimitsOf) at bytes
of_table at bytes (kind_func e h) = absurd (omega (arith, e))
of_table at bytes (kind_table e h) = h
of_table at bytes (kind_memory e h) = absurd (omega (arith, e))
of_table at bytes (kind_global e h) = absurd (omega (arith, e))

of_memory : (at : ℕ) (bytes : List ℕ) → Kinded 2 at bytes → Any LimitsOf at bytes
of_memory at bytes (kind_func e h) = absurd (omega (arith, e))
of_memory at bytes (kind_table e h) = absurd (omega (arith, e))
of_memory at bytes (kind_memory e h) = h
of_memory at bytes (kind_global e h) = absurd (omega (arith, e))

of_global : (at : ℕ) (bytes : List ℕ) → Kinded 3 at bytes → (Any ValueType ▸ Any Mutability) at bytes
of_global at bytes (kind_func e h) = absurd (omega (arith, e))
of_global at bytes (kind_table e h) = absurd (omega (arith, e))
of_global at bytes (kind_memory e h) = absurd (omega (arith, e))
of_global at bytes (kind_global e h) = h

next_kind : (v : ℕ) → ReadsNext (behind_kind v) (Kinded v)
next_kind v =
    let P : ℕ → Type 0 = λ z. ReadsNext (behind_kind z) (Kinded z) in
    elim (tested v 0) [
      | inl e ↦ subst P (sym e) (reads_as _ (Any Number) (Kinded 0) (λ at a h. kind_func refl h) of_func reads_number)
      | inr a ↦ elim (tested v 1) [
        | inl e ↦ subst P (sym e) (reads_as _ (Exactly (0x70 ∷ []) ▸ Any LimitsOf) (Kinded 1) (λ at a h. kind_table refl h) of_table
            (reads_then (exact 0x70) (limits ∷ []) (Exactly (0x70 ∷ [])) (Any LimitsOf) (reads_exact 0x70) reads_limits))
        | inr b ↦ elim (tested v 2) [
          | inl e ↦ subst P (sym e) (reads_as _ (Any LimitsOf) (Kinded 2) (λ at a h. kind_memory refl h) of_memory reads_limits)
          | inr c ↦ elim (tested v 3) [
            | inl e ↦ subst P (sym e) (reads_as _ (Any ValueType ▸ Any Mutability) (Kinded 3) (λ at a h. kind_global refl h) of_global
                (reads_then value_type (mutable ∷ []) (Any ValueType) (Any Mutability) reads_value_type reads_mutable))
            | inr d ↦ rw (a, b, c, d) (kind_none v a b c d)
          ]
        ]
      ]
    ]

kind_from : (at : ℕ) (bytes : List ℕ) → Begins a_byte (λ v k. Kinded v) at bytes → Any ImportKindOf at bytes
kind_from at bytes b = by_kind b.value (subst (λ z. bytes ≡ z ++ b.back) b.is_item b.whole) (subst (λ z. Kinded b.value (at + length z) b.back) b.is_item b.follows) where
  by_kind : (v : ℕ) → bytes ≡ v ∷ b.back → Kinded v (at + 1) b.back → Any ImportKindOf at bytes
  by_kind v e (kind_func f h) = (raw_func h.0, (0x00 ∷ [], b.back, e ∙ ap (λ z. z ∷ b.back) f, refl, h.1))
  by_kind v e (kind_table f h) = (raw_table h.4.0, (0x01 ∷ [], b.back, e ∙ ap (λ z. z ∷ b.back) f, refl, (h.0, h.1, h.2, h.3, h.4.1)))
  by_kind v e (kind_memory f h) = (raw_memory h.0, (0x02 ∷ [], b.back, e ∙ ap (λ z. z ∷ b.back) f, refl, h.1))
  by_kind v e (kind_global f h) = (raw_global h.3.0 h.4.0, (0x03 ∷ [], b.back, e ∙ ap (λ z. z ∷ b.back) f, refl, (h.0, h.1, h.2, h.3.1, h.4.1)))

kind_to_raw : (at : ℕ) (k : RawKind) (bytes : List ℕ) → ImportKindOf k at bytes → Begins a_byte (λ v k. Kinded v) at bytes
kind_to_raw at (raw_func sort) bytes h = record {
  front = 0x00 ∷ [];
  back = h.1;
  value = 0x00;
  whole = h.2
      ∙ ap (λ z. z ++ h.1) h.3;
  is_item = refl;
  follows = kind_func refl (sort, subst (λ z. Number sort (at + length z) h.1) h.3 h.4);
}
kind_to_raw at (raw_table l) bytes h =
    let t = subst (λ z. TableType l (at + length z) h.1) h.3 h.4 in
    record { front = 0x01 ∷ []; back = h.1; value = 0x01; whole = h.2 ∙ ap (λ z. z ++ h.1) h.3; is_item = refl; follows = kind_table refl (t.0, t.1, t.2, t.3, (l, t.4)) }
kind_to_raw at (raw_memory l) bytes h = record {
  front = 0x02 ∷ [];
  back = h.1;
  value = 0x02;
  whole = h.2
      ∙ ap (λ z. z ++ h.1) h.3;
  is_item = refl;
  follows = kind_memory refl (l, subst (λ z. LimitsOf l (at + length z) h.1) h.3 h.4);
}
kind_to_raw at (raw_global ty m) bytes h =
    let t = subst (λ z. GlobalType ty m (at + length z) h.1) h.3 h.4 in
    record { front = 0x03 ∷ []; back = h.1; value = 0x03; whole = h.2 ∙ ap (λ z. z ++ h.1) h.3; is_item = refl; follows = kind_global refl (t.0, t.1, t.2, (ty, t.3), (m, t.4)) }

pub reads_import_kind : Reads (import_kind ∷ []) (Any ImportKindOf)
unfolding next
reads_import_kind = reads_as _ (Begins a_byte (λ v k. Kinded v)) (Any ImportKindOf) kind_from (λ at a h. kind_to_raw at h.0 a h.1)
    (reads_first import_kind (λ v k. Kinded v) refl refl (λ v k. next_kind v))
