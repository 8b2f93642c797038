-- Instructions from their opcodes and operands.
use Rattle.std.proofs.Common.{◌≡◌, ℕ, refl, ap, nat_eq, cond, false, arith, ◌≤◌}
use Rattle.std.proofs.lemmas.Bool.{ne_eqb}
use Rattle.wa_types.specs.declared.values.Value.TheVariants.{I32 as value_32, I64 as value_64}
use Rattle.wa_types.specs.declared.operators.NumOp.{NumOp}
use Rattle.wa_types.specs.Operators.{opcode_of}
use Rattle.wa_types.specs.Opcodes.{is_load_op, plain_opcode, plain_immediates}
use Rattle.wa_types.specs.Binary.{Immediates, nothing, zero_byte, index, index_and_zero, access, labels, constant, float, bulk}
use Rattle.wa_types.specs.Syntax.{nop, drop, select, const, num, global_get, global_set, load, store, memory_size, memory_grow, memory_copy, memory_fill, Plain, basic, local_get, local_set, local_tee, br, br_if}
use Rattle.wa_types.specs.Syntax.{br_table, return, unreachable, call, call_indirect}
use Rattle.wa_types.specs.Reading.{HasKind}
use Rattle.wa_types.proofs.OperatorLemmas.{operator_at, operator_again, operator_low}
use Rattle.file_laws.proofs.CodeWriting.{store_range}
use Rattle.file_laws.proofs.OpcodeTable.{within_above}

-- the instruction of an opcode and operands
pub plain_of : ℕ → Immediates → Plain
plain_of op nothing =
    cond (nat_eq op 0x00) unreachable (cond (nat_eq op 0x01) (basic nop) (cond (nat_eq op 0x0F) return
    (cond (nat_eq op 0x1A) (basic drop) (cond (nat_eq op 0x1B) (basic select) (basic (num (operator_at op)))))))
plain_of op zero_byte = cond (nat_eq op 0x3F) (basic memory_size) (basic memory_grow)
plain_of op (index x) =
    cond (nat_eq op 0x0C) (br x) (cond (nat_eq op 0x0D) (br_if x) (cond (nat_eq op 0x10) (call x) (cond (nat_eq op 0x20) (local_get x) (cond (nat_eq op 0x21) (local_set x)
    (cond (nat_eq op 0x22) (local_tee x) (cond (nat_eq op 0x23) (basic (global_get x)) (basic (global_set x))))))))
plain_of op (index_and_zero x) = call_indirect x
plain_of op (access align offset) = cond (is_load_op op) (basic (load op align offset)) (basic (store op align offset))
plain_of op (labels targets last) = br_table targets last
plain_of op (constant bits n) = cond (nat_eq bits 32) (basic (const (value_32 n))) (basic (const (value_64 n)))
plain_of op (float bytes) = basic nop
plain_of op (bulk n) = cond (nat_eq n 10) (basic memory_copy) (basic memory_fill)

bare_at : (op : ℕ) (n : NumOp) → 0x45 ≤ op → operator_at op ≡ n → plain_of op nothing ≡ basic (num n)
unfolding plain_of
bare_at op n low is =
    rw (
      ne_eqb op 0x00 (λ e. omega (arith, low, e)),
      ne_eqb op 0x01 (λ e. omega (arith, low, e)),
      ne_eqb op 0x0F (λ e. omega (arith, low, e)),
      ne_eqb op 0x1A (λ e. omega (arith, low, e)),
      ne_eqb op 0x1B (λ e. omega (arith, low, e)),
    ) (ap (λ k. basic (num k)) is)

pub num_again : (op : NumOp) → plain_of (opcode_of op) nothing ≡ basic (num op)
num_again op = bare_at (opcode_of op) op (operator_low op) (operator_again op)

not_load : (op : ℕ) → 0x36 ≤ op → is_load_op op ≡ false
not_load op h = rw (within_above 0x28 0x29 op (omega (arith, h)), within_above 0x2C 0x35 op (omega (arith, h))) refl

-- an instruction's opcode and operands give it back
pub plain_again : (p : Plain) → HasKind p → plain_of (plain_opcode p) (plain_immediates p) ≡ p
unfolding plain_of
plain_again (basic nop) h = refl
plain_again (basic drop) h = refl
plain_again (basic select) h = refl
plain_again (basic (const (value_32 n))) h = refl
plain_again (basic (const (value_64 n))) h = refl
plain_again (basic (num op)) h = num_again op
plain_again (basic (global_get x)) h = refl
plain_again (basic (global_set x)) h = refl
plain_again (basic (load op align offset)) h = rw h refl
plain_again (basic (store op align offset)) h = rw (not_load op (store_range op h).0) refl
plain_again (basic memory_size) h = refl
plain_again (basic memory_grow) h = refl
plain_again (basic memory_copy) h = refl
plain_again (basic memory_fill) h = refl
plain_again (local_get x) h = refl
plain_again (local_set x) h = refl
plain_again (local_tee x) h = refl
plain_again (br x) h = refl
plain_again (br_if x) h = refl
plain_again (br_table targets last) h = refl
plain_again return h = refl
plain_again unreachable h = refl
plain_again (call x) h = refl
plain_again (call_indirect x) h = refl
