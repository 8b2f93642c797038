-- Operators by their opcodes. What holds of each operator by computing is one clause for the first and one for all others.
use Rattle.std.proofs.Common.{◌≡◌, ◌≤◌, ◌<◌, ◌+◌, ◌-◌, ℕ, nat_eq, nat_le, List, [], ◌∷◌, Some, cond, true, get_or, refl, ap, ◌∙◌, eqb-true}
use Rattle.std.proofs.lemmas.Bool.{leb-true}
use Rattle.wa_types.specs.declared.operators.NumOp.{NumOp}
use Rattle.wa_types.specs.declared.operators.NumOp.TheVariants.{I32Eqz}
use Rattle.wa_types.specs.declared.operators.TheConstants.{OPERATORS}
use Rattle.wa_types.specs.Operators.{opcode_of}
use Rattle.wa_types.proofs.Ranges.{all_from, passes}

-- the first one of an opcode in a list; I32Eqz where there is none
unfoldable pub operator_in : List NumOp → ℕ → NumOp
operator_in [] op = I32Eqz
operator_in (n ∷ ns) op = cond (nat_eq (opcode_of n) op) n (operator_in ns op)

unfoldable pub operator_at : ℕ → NumOp
operator_at op = operator_in OPERATORS op

pub operator_again : (op : NumOp) → operator_at (opcode_of op) ≡ op
unfolding operator_in operator_at
operator_again I32Eqz = refl
operator_again _ = refl

not_below : (op : NumOp) → nat_le 0x45 (opcode_of op) ≡ true
not_below I32Eqz = refl
not_below _ = refl

-- no operator's opcode is below that of the first
pub operator_low : (op : NumOp) → 0x45 ≤ opcode_of op
operator_low op = leb-true 0x45 (opcode_of op) (not_below op)

some_same : (x n : NumOp) → Some x ≡ Some n → x ≡ n
some_same x n e = cc

-- the operators of the array from a place on have the opcodes from a number on
pub opcode_in : (d : NumOp) (first low n op : ℕ) → low ≤ op → op < low + n → all_from (λ k. nat_eq k (opcode_of (get_or OPERATORS (k - first) d))) low n ≡ true
    → (m : NumOp) → Some (get_or OPERATORS (op - first) d) ≡ Some m → op ≡ opcode_of m
opcode_in d first low n op h k e m f =
    eqb-true op _ (passes (λ k. nat_eq k (opcode_of (get_or OPERATORS (k - first) d))) low n op h k e) ∙ ap (λ x. opcode_of x) (some_same (get_or OPERATORS (op - first) d) m f)
