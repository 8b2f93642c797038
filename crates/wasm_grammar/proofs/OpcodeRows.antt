-- The table of what follows an opcode, by ranges: each is computed over all of its opcodes.
use Rattle.std.proofs.Common.{◌≡◌, ℕ, suc, ◌+◌, ◌-◌, ◌<◌, ◌≤◌, Bool, true, false, Option, Some, None, refl, arith, inl, inr}
use Rattle.std.proofs.lemmas.Bool.{cases_lt}
use Rattle.wa_types.specs.Operators.{first_numeric, last_numeric}
use Rattle.wa_types.specs.Opcodes.{Form, no_immediate, a_zero, an_index, an_access, follows}
use Rattle.wa_types.proofs.Ranges.{all_from, passes}
use Rattle.file_laws.proofs.OpcodeTable.{none_follows}

-- two of the forms that ranges of opcodes have
is : Option Form → Option Form → Bool
is None None = true
is (Some no_immediate) (Some no_immediate) = true
is (Some a_zero) (Some a_zero) = true
is (Some an_index) (Some an_index) = true
is (Some an_access) (Some an_access) = true
is _ _ = false

same : (o x : Option Form) → is o x ≡ true → o ≡ x
unfolding is
same None None e = refl
same (Some no_immediate) (Some no_immediate) e = refl
same (Some a_zero) (Some a_zero) e = refl
same (Some an_index) (Some an_index) e = refl
same (Some an_access) (Some an_access) e = refl
same _ _ e = cc

row : (x : Option Form) (low n op : ℕ) → low ≤ op → op < low + n → all_from (λ k. is (follows k) x) low n ≡ true → follows op ≡ x
row x low n op h k e = same (follows op) x (passes (λ j. is (follows j) x) low n op h k e)

pub row_0 : (op : ℕ) → 0 ≤ op → op ≤ 1 → follows op ≡ Some no_immediate
unfolding follows all_from is
row_0 op h k = row (Some no_immediate) 0 2 op h (omega (arith, k)) refl

pub row_12 : (op : ℕ) → 12 ≤ op → op ≤ 13 → follows op ≡ Some an_index
unfolding follows all_from is
row_12 op h k = row (Some an_index) 12 2 op h (omega (arith, k)) refl

pub row_26 : (op : ℕ) → 26 ≤ op → op ≤ 27 → follows op ≡ Some no_immediate
unfolding follows all_from is
row_26 op h k = row (Some no_immediate) 26 2 op h (omega (arith, k)) refl

pub row_32 : (op : ℕ) → 32 ≤ op → op ≤ 36 → follows op ≡ Some an_index
unfolding follows all_from is
row_32 op h k = row (Some an_index) 32 5 op h (omega (arith, k)) refl

pub row_40 : (op : ℕ) → 40 ≤ op → op ≤ 62 → follows op ≡ Some an_access
unfolding follows all_from is
row_40 op h k = row (Some an_access) 40 23 op h (omega (arith, k)) refl

pub row_63 : (op : ℕ) → 63 ≤ op → op ≤ 64 → follows op ≡ Some a_zero
unfolding follows all_from is
row_63 op h k = row (Some a_zero) 63 2 op h (omega (arith, k)) refl

pub row_numeric : (op : ℕ) → first_numeric ≤ op → op ≤ last_numeric → follows op ≡ Some no_immediate
unfolding follows all_from is
row_numeric op h k = row (Some no_immediate) first_numeric (suc last_numeric - first_numeric) op h (omega (arith, k)) refl

gap_197 : (op : ℕ) → 197 ≤ op → op ≤ 251 → follows op ≡ None
unfolding follows all_from is
gap_197 op h k = row None 197 55 op h (omega (arith, k)) refl

-- above the numeric opcodes there is the prefix alone
pub past_numeric : (op : ℕ) → last_numeric < op → (op ≡ 0xFC → ⊥) → follows op ≡ None
past_numeric op h n = elim (cases_lt 0xFC op) [
  | inl past ↦ none_follows op past
  | inr le ↦ elim (cases_lt op 0xFC) [
    | inl lt ↦ gap_197 op (omega (arith, h)) (omega (arith, lt))
    | inr ge ↦ absurd (n (omega (arith, le, ge)))
  ]
]

pub gap_2 : (op : ℕ) → 2 ≤ op → op ≤ 11 → follows op ≡ None
unfolding follows all_from is
gap_2 op h k = row None 2 10 op h (omega (arith, k)) refl

pub gap_18 : (op : ℕ) → 18 ≤ op → op ≤ 25 → follows op ≡ None
unfolding follows all_from is
gap_18 op h k = row None 18 8 op h (omega (arith, k)) refl

pub gap_28 : (op : ℕ) → 28 ≤ op → op ≤ 31 → follows op ≡ None
unfolding follows all_from is
gap_28 op h k = row None 28 4 op h (omega (arith, k)) refl

pub gap_37 : (op : ℕ) → 37 ≤ op → op ≤ 39 → follows op ≡ None
unfolding follows all_from is
gap_37 op h k = row None 37 3 op h (omega (arith, k)) refl
