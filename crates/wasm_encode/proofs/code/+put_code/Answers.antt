use Rattle.std.proofs.Common.{[], ◌∷◌, ◌++◌, ◌∙◌, ap, append_assoc, sym}
use Rattle.std.proofs.lemmas.Result.{IfOk-weaker, on_ok_weaker}
use Rattle.leb_numbers.specs.Leb.{shortest}
use Rattle.wa_types.specs.Encoding.{block_type_byte, code_bytes, vector}
use Rattle.wa_types.specs.View.{code}
use Rattle.wasm_encode.specs.Instrs.{instr_bytes, immediate_bytes}
use Rattle.wasm_encode.proofs.Codes.{block_bytes, loop_bytes, put_end, put_parts, put_step, table_bytes}
use Rattle.wasm_encode.proofs.code.+put_code.Goals as goal

pub put_code-loop-instr-preserved : goal.put_code-loop-instr-preserved
put_code-loop-instr-preserved t c =
    put_step c.args.body.now c.loop-instr.instr-index c.instr-item.result c.loop-instr.out.items c.put_instr.new.out.items _ c.loop-instr-test.true c.instr-item.is c.in_ok-put_instr.ensures
    c.loop-instr.invariant

pub put_code-returns : goal.put_code-returns
put_code-returns t c =
    IfOk-weaker c.extend_from_slice.result _ _ (λ u e. put_end c.args.body.now c.loop-instr.instr-index c.args.close c.loop-instr.out.items c.extend_from_slice.new.self.items
    (c.args.out.now.items ++ code_bytes (code c.args.body.now)) c.loop-instr-test.false e c.loop-instr.invariant) c.extend_from_slice.ensures.ok

pub put_instr-returns-in_ok-put_vector-in-BrTable : goal.put_instr-returns-in_ok-put_vector-in-BrTable
put_instr-returns-in_ok-put_vector-in-BrTable t c =
    let labels = vector shortest c.in-BrTable.labels.items in
    let last = shortest c.in-BrTable.last in
    let two = c.in_ok-put_vector-in-BrTable.ensures ∙ ap (λ xs. c.extend_from_slice.new.self.items ++ vector shortest xs) c.deref.ensures.value in
    on_ok_weaker c.put_unsigned.result
    (λ put. put_parts c.args.out.now.items (0x0E ∷ []) labels last c.extend_from_slice.new.self.items c.put_unsigned.new.out.items (instr_bytes c.args.instr.now)
    c.in_ok-extend_from_slice-in-BrTable.ensures.ok (put ∙ ap (λ s. s ++ last) two) (ap instr_bytes c.in-BrTable.is ∙ table_bytes c.in-BrTable.labels c.in-BrTable.last))
    c.put_unsigned.ensures

pub put_instr-returns-in_ok-extend_from_slice-in-Block : goal.put_instr-returns-in_ok-extend_from_slice-in-Block
put_instr-returns-in_ok-extend_from_slice-in-Block t c =
    let r = c.in-Block.result in
    let first = c.extend_from_slice-in-Block.new.self.items in
    let begun = c.in_ok-extend_from_slice-in-Block.ensures.ok ∙ ap (λ x. c.args.out.now.items ++ 0x02 ∷ x ∷ []) c.result_byte.ensures in
    let inside = ap (λ xs. first ++ code_bytes (code xs) ++ 0x0B ∷ []) c.deref-in-Block.ensures.value in
    on_ok_weaker c.put_code.result
    (λ put. put_parts c.args.out.now.items (0x02 ∷ block_type_byte r ∷ []) (code_bytes (code c.in-Block.body.items)) (0x0B ∷ []) first c.put_code.new.out.items
    (instr_bytes c.args.instr.now) begun (put ∙ inside) (ap instr_bytes c.in-Block.is ∙ block_bytes r c.in-Block.body))
    c.put_code.ensures

pub put_instr-returns-in_ok-extend_from_slice-in-Loop : goal.put_instr-returns-in_ok-extend_from_slice-in-Loop
put_instr-returns-in_ok-extend_from_slice-in-Loop t c =
    let r = c.in-Loop.result in
    let first = c.extend_from_slice-in-Loop.new.self.items in
    let begun = c.in_ok-extend_from_slice-in-Loop.ensures.ok ∙ ap (λ x. c.args.out.now.items ++ 0x03 ∷ x ∷ []) c.result_byte-in-Loop.ensures in
    let inside = ap (λ xs. first ++ code_bytes (code xs) ++ 0x0B ∷ []) c.deref-in-Loop.ensures.value in
    on_ok_weaker c.put_code-in-Loop.result
    (λ put. put_parts c.args.out.now.items (0x03 ∷ block_type_byte r ∷ []) (code_bytes (code c.in-Loop.body.items)) (0x0B ∷ []) first c.put_code-in-Loop.new.out.items
    (instr_bytes c.args.instr.now) begun (put ∙ inside) (ap instr_bytes c.in-Loop.is ∙ loop_bytes r c.in-Loop.body))
    c.put_code-in-Loop.ensures

pub put_instr-returns-in_default : goal.put_instr-returns-in_default
put_instr-returns-in_default t c =
    on_ok_weaker c.put_simple.result (λ put. put ∙ ap (λ s. c.args.out.now.items ++ s) (sym c.opcode_and_immediates-opcode.ensures)) c.put_simple.ensures
