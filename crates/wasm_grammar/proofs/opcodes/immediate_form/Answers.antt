use Rattle.std.proofs.Common.{◌≡◌, Some, refl, sym, ap, ◌∙◌, arith}
use Rattle.wa_types.specs.Opcodes.{no_immediate, a_bulk, an_index, an_index_and_zero, some_labels, a_constant, a_float, follows}
use Rattle.wasm_grammar.proofs.OpcodeRows.{row_0, row_12, row_26, row_32, row_40, row_63, gap_2, gap_18, gap_28, gap_37, past_numeric}
use Rattle.wasm_grammar.proofs.opcodes.immediate_form.Goals as goal

pub returns-in-0-to-1 : goal.returns-in-0-to-1
returns-in-0-to-1 c = sym (row_0 _ (omega arith) (omega arith))

pub returns-in-12-to-13 : goal.returns-in-12-to-13
returns-in-12-to-13 c = sym (row_12 _ (omega arith) (omega arith))

pub returns-in-14 : goal.returns-in-14
unfolding follows
returns-in-14 c = let e : follows 14 ≡ Some some_labels = refl in sym (ap follows c.in-14.is ∙ e)

pub returns-in-15 : goal.returns-in-15
unfolding follows
returns-in-15 c = let e : follows 15 ≡ Some no_immediate = refl in sym (ap follows c.in-15.is ∙ e)

pub returns-in-16 : goal.returns-in-16
unfolding follows
returns-in-16 c = let e : follows 16 ≡ Some an_index = refl in sym (ap follows c.in-16.is ∙ e)

pub returns-in-17 : goal.returns-in-17
unfolding follows
returns-in-17 c = let e : follows 17 ≡ Some an_index_and_zero = refl in sym (ap follows c.in-17.is ∙ e)

pub returns-in-26-to-27 : goal.returns-in-26-to-27
returns-in-26-to-27 c = sym (row_26 _ (omega arith) (omega arith))

pub returns-in-32-to-36 : goal.returns-in-32-to-36
returns-in-32-to-36 c = sym (row_32 _ (omega arith) (omega arith))

pub returns-in-40-to-62 : goal.returns-in-40-to-62
returns-in-40-to-62 c = sym (row_40 _ (omega arith) (omega arith))

pub returns-in-63-to-64 : goal.returns-in-63-to-64
returns-in-63-to-64 c = sym (row_63 _ (omega arith) (omega arith))

pub returns-in-65 : goal.returns-in-65
unfolding follows
returns-in-65 c = let e : follows 65 ≡ Some (a_constant 32) = refl in sym (ap follows c.in-65.is ∙ e)

pub returns-in-66 : goal.returns-in-66
unfolding follows
returns-in-66 c = let e : follows 66 ≡ Some (a_constant 64) = refl in sym (ap follows c.in-66.is ∙ e)

pub returns-in-67 : goal.returns-in-67
unfolding follows
returns-in-67 c = let e : follows 67 ≡ Some (a_float 4) = refl in sym (ap follows c.in-67.is ∙ e)

pub returns-in-68 : goal.returns-in-68
unfolding follows
returns-in-68 c = let e : follows 68 ≡ Some (a_float 8) = refl in sym (ap follows c.in-68.is ∙ e)

pub returns-in-252 : goal.returns-in-252
unfolding follows
returns-in-252 c = let e : follows 252 ≡ Some a_bulk = refl in sym (ap follows c.in-252.is ∙ e)

pub returns-in_default : goal.returns-in_default
returns-in_default c = sym (gap_2 _ (omega arith) (omega arith))

pub returns-in_default-2 : goal.returns-in_default-2
returns-in_default-2 c = sym (gap_18 _ (omega arith) (omega arith))

pub returns-in_default-3 : goal.returns-in_default-3
returns-in_default-3 c = sym (gap_28 _ (omega arith) (omega arith))

pub returns-in_default-4 : goal.returns-in_default-4
returns-in_default-4 c = sym (gap_37 _ (omega arith) (omega arith))

pub returns-in_default-5 : goal.returns-in_default-5
returns-in_default-5 c = sym (past_numeric _ (omega arith) (λ e. omega (arith, e)))
