use Rattle.std.proofs.Common.{◌≡◌, ◌<◌, ◌^◌, ◌∙◌, ap, length, rules, arith}
use Rattle.leb_numbers.specs.Leb.{shortest}
use Rattle.wa_types.specs.Encoding.{vector, code_bytes}
use Rattle.wa_types.specs.View.{code}
use Rattle.wa_types.specs.declared.instrs.Instr.{the_lemmas}
use Rattle.wasm_encode.specs.Instrs.{instr_bytes}
use Rattle.wasm_encode.proofs.Codes.{branch_length_le, instr_length, instr_none_length, measuring_one, table_length}
use Rattle.wasm_encode.proofs.code.+code_len.Goals as goal

pub code_len-instr_len-len-requires : goal.code_len-instr_len-len-requires
code_len-instr_len-len-requires t c = (
  search (rules, the_lemmas),
  omega (arith, instr_length c.args.body.now c.loop-instr.instr-index c.instr-item.result c.loop-instr-test.true c.instr-item.is, c.loop-instr.invariant, c.requires),
)

pub code_len-overflow_add-len : goal.code_len-overflow_add-len
code_len-overflow_add-len t c =
    omega (
      arith,
      instr_length c.args.body.now c.loop-instr.instr-index c.instr-item.result c.loop-instr-test.true c.instr-item.is,
      c.loop-instr.invariant,
      c.instr_len-len.ensures,
      c.requires,
    )

pub code_len-loop-instr-preserved : goal.code_len-loop-instr-preserved
code_len-loop-instr-preserved t c =
    omega (
      arith,
      instr_length c.args.body.now c.loop-instr.instr-index c.instr-item.result c.loop-instr-test.true c.instr-item.is,
      c.loop-instr.invariant,
      c.instr_len-len.ensures,
    )

pub code_len-returns : goal.code_len-returns
code_len-returns t c = omega (arith, instr_none_length c.args.body.now c.loop-instr.instr-index c.loop-instr-test.false, c.loop-instr.invariant)

pub instr_len-vector_len-requires-clause-few : goal.instr_len-vector_len-requires-clause-few
instr_len-vector_len-requires-clause-few t c =
    let e = ap (λ i. length (instr_bytes i)) c.in-BrTable.is ∙ table_length c.in-BrTable.labels c.in-BrTable.last in
    let v = ap (λ xs. length (vector shortest xs)) c.deref.ensures.value in
    let few : length (vector shortest c.deref.result.now) < 2 ^ 64 = omega (arith, e, v, c.requires) in
    few

pub instr_len-overflow_add-result : goal.instr_len-overflow_add-result
instr_len-overflow_add-result t c =
    let e = ap (λ i. length (instr_bytes i)) c.in-BrTable.is ∙ table_length c.in-BrTable.labels c.in-BrTable.last in
    let v : c.vector_len.result ≡ length (vector shortest c.in-BrTable.labels.items) = c.vector_len.ensures ∙ ap (λ xs. length (vector shortest xs)) c.deref.ensures.value in
    omega (arith, e, v, c.requires)

pub instr_len-overflow_add-result-in-BrTable : goal.instr_len-overflow_add-result-in-BrTable
instr_len-overflow_add-result-in-BrTable t c =
    let e = ap (λ i. length (instr_bytes i)) c.in-BrTable.is ∙ table_length c.in-BrTable.labels c.in-BrTable.last in
    let v : c.vector_len.result ≡ length (vector shortest c.in-BrTable.labels.items) = c.vector_len.ensures ∙ ap (λ xs. length (vector shortest xs)) c.deref.ensures.value in
    omega (arith, e, v, c.unsigned_len.ensures.exact, c.requires)

pub instr_len-returns-in-BrTable : goal.instr_len-returns-in-BrTable
instr_len-returns-in-BrTable t c =
    let e = ap (λ i. length (instr_bytes i)) c.in-BrTable.is ∙ table_length c.in-BrTable.labels c.in-BrTable.last in
    let v : c.vector_len.result ≡ length (vector shortest c.in-BrTable.labels.items) = c.vector_len.ensures ∙ ap (λ xs. length (vector shortest xs)) c.deref.ensures.value in
    omega (arith, e, v, c.unsigned_len.ensures.exact)

pub instr_len-code_len-requires : goal.instr_len-code_len-requires
instr_len-code_len-requires t c =
    let e = ap (λ i. length (instr_bytes i)) c.in-If.is in
    let le = branch_length_le c.in-If.result c.in-If.then_arm c.in-If.else_arm in
    let v = ap (λ xs. length (code_bytes (code xs))) c.deref-in-If.ensures.value in
    (search (rules, the_lemmas), omega (arith, e, le, v, c.requires))

pub instr_len-code_len-requires-in-If : goal.instr_len-code_len-requires-in-If
instr_len-code_len-requires-in-If t c =
    let e = ap (λ i. length (instr_bytes i)) c.in-If.is in
    let le = branch_length_le c.in-If.result c.in-If.then_arm c.in-If.else_arm in
    let v = ap (λ xs. length (code_bytes (code xs))) c.deref-in-If-2.ensures.value in
    (search (rules, the_lemmas), omega (arith, e, le, v, c.requires))

pub instr_len-overflow_add-arms : goal.instr_len-overflow_add-arms
instr_len-overflow_add-arms t c =
    let e = ap (λ i. length (instr_bytes i)) c.in-If.is in
    let le = branch_length_le c.in-If.result c.in-If.then_arm c.in-If.else_arm in
    let v = c.code_len.ensures ∙ ap (λ xs. length (code_bytes (code xs))) c.deref-in-If.ensures.value in
    let w = c.code_len-in-If.ensures ∙ ap (λ xs. length (code_bytes (code xs))) c.deref-in-If-2.ensures.value in
    omega (arith, e, le, v, w, c.requires)

pub instr_len-overflow_add-result-then-is_empty : goal.instr_len-overflow_add-result-then-is_empty
instr_len-overflow_add-result-then-is_empty t c =
    let e = ap (λ i. length (instr_bytes i)) c.in-If.is in
    let le = branch_length_le c.in-If.result c.in-If.then_arm c.in-If.else_arm in
    let v = c.code_len.ensures ∙ ap (λ xs. length (code_bytes (code xs))) c.deref-in-If.ensures.value in
    let w = c.code_len-in-If.ensures ∙ ap (λ xs. length (code_bytes (code xs))) c.deref-in-If-2.ensures.value in
    omega (arith, e, le, v, w, c.requires)

pub instr_len-overflow_add-result-in_default : goal.instr_len-overflow_add-result-in_default
instr_len-overflow_add-result-in_default t c = omega (arith, c.immediates_len.ensures.few)

pub instr_len-code_len-requires-in-Block : goal.instr_len-code_len-requires-in-Block
instr_len-code_len-requires-in-Block t c = (search (rules, the_lemmas), grind (arith, measuring_one))
