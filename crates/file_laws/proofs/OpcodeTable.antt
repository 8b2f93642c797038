-- The table of what follows an opcode: no operator is followed by anything, nothing stands above the prefix, and floats have bytes.
use Rattle.std.proofs.Common.{◌≡◌, ℕ, suc, ◌+◌, ◌<◌, inl, inr, Bool, true, false, Option, Some, None, refl, sym, ◌∙◌, subst, arith, nat_le, nat_lt, ◌&&◌}
use Rattle.std.proofs.lemmas.Bool.{cases_lt, lt-leb, ltb-true, ne_eqb}
use Rattle.wa_types.specs.declared.operators.NumOp.{NumOp}
use Rattle.wa_types.specs.declared.operators.NumOp.TheVariants.{I32Eqz}
use Rattle.wa_types.specs.Operators.{opcode_of, first_numeric, last_numeric}
use Rattle.wa_types.specs.Opcodes.{Form, no_immediate, a_float, follows, within}
use Rattle.wa_types.proofs.Ranges.{all_from, passes}

-- no operator is followed by anything
pub num_follows : (op : NumOp) → follows (opcode_of op) ≡ Some no_immediate
unfolding follows
num_follows I32Eqz = refl
num_follows _ = refl

pub within_above : (low high n : ℕ) → high < n → within low high n ≡ false
within_above low high n h = elim (nat_le low n) as (λ t. (t && nat_le n high) ≡ false) [ true ↦ lt-leb n high h | false ↦ refl ]

-- the table ends with the prefix
pub none_follows : (op : ℕ) → 0xFC < op → follows op ≡ None
unfolding follows
none_follows op h =
    rw (
      within_above 0x00 0x01 op (omega (arith, h)),
      within_above 0x0C 0x0D op (omega (arith, h)),
      ne_eqb op 0x0E (λ e. omega (arith, h, e)),
      ne_eqb op 0x0F (λ e. omega (arith, h, e)),
      ne_eqb op 0x10 (λ e. omega (arith, h, e)),
      ne_eqb op 0x11 (λ e. omega (arith, h, e)),
      within_above 0x1A 0x1B op (omega (arith, h)),
      within_above 0x20 0x24 op (omega (arith, h)),
      within_above 0x28 0x3E op (omega (arith, h)),
      within_above 0x3F 0x40 op (omega (arith, h)),
      ne_eqb op 0x41 (λ e. omega (arith, h, e)),
      ne_eqb op 0x42 (λ e. omega (arith, h, e)),
      ne_eqb op 0x43 (λ e. omega (arith, h, e)),
      ne_eqb op 0x44 (λ e. omega (arith, h, e)),
      within_above first_numeric last_numeric op (omega (arith, h)),
      ne_eqb op 0xFC (λ e. omega (arith, h, e)),
    ) refl

not_followed : (f : Form) → None ≡ Some f → ⊥
not_followed f e = cc

-- an opcode that the table knows is at most the last
pub known_low : (op : ℕ) (f : Form) → follows op ≡ Some f → op < 0 + suc 0xFC
known_low op f e = elim (cases_lt 0xFC op) [
  | inl past ↦ absurd (not_followed f (sym (none_follows op past) ∙ e))
  | inr low ↦ omega (arith, low)
]

-- a float has bytes
unfoldable pub HasBytes : Form → Type 0
HasBytes (a_float n) = 0 < n
HasBytes _ = Unit {0}

is_sized : Option Form → Bool
is_sized (Some (a_float n)) = nat_lt 0 n
is_sized _ = true

sized : (f : Form) → is_sized (Some f) ≡ true → HasBytes f
unfolding is_sized HasBytes
sized (a_float n) e = ltb-true 0 n e
sized _ e = tt

all_sized : all_from (λ op. is_sized (follows op)) 0 (suc 0xFC) ≡ true
unfolding all_from follows is_sized
all_sized = refl

-- the table's floats have bytes
pub has_bytes : (op : ℕ) (f : Form) → follows op ≡ Some f → HasBytes f
has_bytes op f e = sized f (subst (λ o. is_sized o ≡ true) e (passes (λ k. is_sized (follows k)) 0 (suc 0xFC) op (omega arith) (known_low op f e) all_sized))
