use Rattle.std.proofs.Common.{[], ◌∷◌}
use Rattle.std.proofs.lemmas.Result.{err_from_is_err_and}
use Rattle.wa_types.specs.Spells.{◌▸◌, Exactly, Number}
use Rattle.wasm_grammar.specs.declared.opcodes.ImmediateForm.TheVariants.{Nothing, ZeroByte, Index, IndexAndZero, Access, Labels, Constant32, Constant64, Float4, Float8, Bulk}
use Rattle.wasm_build.proofs.Steps.{step, step_number, stop, stop_number, stop_last_number, stop_passed}
use Rattle.wasm_build.proofs.PlainParts.{table_says, table_is_silent, operands_in, x_in, align_in, offset_in, targets_in, zero_start, index_start, both_start, access_start, labels_start, constant_start, simple_found, memory_built, index_found, access_found, call_built, table_built, const_32_built, const_64_built, never_float, never_none}
use Rattle.wasm_build.proofs.plain.plain.Goals as goal

pub returns-in_err-tag-in-Some-ZeroByte-clause-built : goal.returns-in_err-tag-in-Some-ZeroByte-clause-built
returns-in_err-tag-in-Some-ZeroByte-clause-built c =
    let p = err_from_is_err_and c.from_residual.result c.from_residual.ensures.1 in
    stop_passed (λ c. Exactly []) p.1 c.in_err-tag-in-Some-ZeroByte.ensures.passed (zero_start _ _
    (table_says _ _ ZeroByte _ c.immediate_form.ensures c.in-Some-ZeroByte.is c.in-Some-ZeroByte.field-0-is))

pub returns-in_err-x-in-Some-Index-clause-built : goal.returns-in_err-x-in-Some-Index-clause-built
returns-in_err-x-in-Some-Index-clause-built c =
    let p = err_from_is_err_and c.from_residual-in_err-x-in-Some-Index.result c.from_residual-in_err-x-in-Some-Index.ensures.1 in
    stop_last_number (λ c. x_in (operands_in c)) p.1 c.in_err-x-in-Some-Index.ensures.read (index_start _ _
    (table_says _ _ Index _ c.immediate_form.ensures c.in-Some-Index.is c.in-Some-Index.field-0-is))

pub returns-in_err-x-in-Some-IndexAndZero-clause-built : goal.returns-in_err-x-in-Some-IndexAndZero-clause-built
returns-in_err-x-in-Some-IndexAndZero-clause-built c =
    let p = err_from_is_err_and c.from_residual-in_err-x-in-Some-IndexAndZero.result c.from_residual-in_err-x-in-Some-IndexAndZero.ensures.1 in
    stop_number (λ c. x_in (operands_in c)) (λ c. Exactly (0x00 ∷ []) ▸ Exactly []) p.1 c.in_err-x-in-Some-IndexAndZero.ensures.read
    (both_start _ _ (table_says _ _ IndexAndZero _ c.immediate_form.ensures c.in-Some-IndexAndZero.is c.in-Some-IndexAndZero.field-0-is))

pub returns-in_err-tag-in-Some-IndexAndZero-clause-built : goal.returns-in_err-tag-in-Some-IndexAndZero-clause-built
returns-in_err-tag-in-Some-IndexAndZero-clause-built c =
    let p = err_from_is_err_and c.from_residual-in_err-tag-in-Some-IndexAndZero.result c.from_residual-in_err-tag-in-Some-IndexAndZero.ensures.1 in
    stop_passed (λ c. Exactly []) p.1 c.in_err-tag-in-Some-IndexAndZero.ensures.passed (step_number (λ c. x_in (operands_in c)) (λ c. Exactly (0x00 ∷ [])
    ▸ Exactly []) c.in_ok-x-in-Some-IndexAndZero.ensures.read
    (both_start _ _ (table_says _ _ IndexAndZero _ c.immediate_form.ensures c.in-Some-IndexAndZero.is c.in-Some-IndexAndZero.field-0-is)))

pub returns-in_err-align-in-Some-Access-clause-built : goal.returns-in_err-align-in-Some-Access-clause-built
returns-in_err-align-in-Some-Access-clause-built c =
    let p = err_from_is_err_and c.from_residual-in_err-align-in-Some-Access.result c.from_residual-in_err-align-in-Some-Access.ensures.1 in
    stop_number (λ c. align_in (operands_in c)) (λ c. Number (offset_in (operands_in c))) p.1 c.in_err-align-in-Some-Access.ensures.read
    (access_start _ _ (table_says _ _ Access _ c.immediate_form.ensures c.in-Some-Access.is c.in-Some-Access.field-0-is))

pub returns-in_err-offset-in-Some-Access-clause-built : goal.returns-in_err-offset-in-Some-Access-clause-built
returns-in_err-offset-in-Some-Access-clause-built c =
    let p = err_from_is_err_and c.from_residual-in_err-offset-in-Some-Access.result c.from_residual-in_err-offset-in-Some-Access.ensures.1 in
    stop_last_number (λ c. offset_in (operands_in c)) p.1 c.in_err-offset-in-Some-Access.ensures.read
    (step_number (λ c. align_in (operands_in c)) (λ c. Number (offset_in (operands_in c))) c.in_ok-align-in-Some-Access.ensures.read
    (access_start _ _ (table_says _ _ Access _ c.immediate_form.ensures c.in-Some-Access.is c.in-Some-Access.field-0-is)))

pub returns-in_err-labels-in-Some-Labels-clause-built : goal.returns-in_err-labels-in-Some-Labels-clause-built
returns-in_err-labels-in-Some-Labels-clause-built c =
    let p = err_from_is_err_and c.from_residual-in_err-labels-in-Some-Labels.result c.from_residual-in_err-labels-in-Some-Labels.ensures.1 in
    stop (λ c. targets_in (operands_in c)) (λ c. Number (x_in (operands_in c))) p.1 p.2 c.in_err-labels-in-Some-Labels.ensures.built
    (labels_start _ _ (table_says _ _ Labels _ c.immediate_form.ensures c.in-Some-Labels.is c.in-Some-Labels.field-0-is))

pub returns-in_err-last-in-Some-Labels-clause-built : goal.returns-in_err-last-in-Some-Labels-clause-built
returns-in_err-last-in-Some-Labels-clause-built c =
    let p = err_from_is_err_and c.from_residual-in_err-last-in-Some-Labels.result c.from_residual-in_err-last-in-Some-Labels.ensures.1 in
    stop_last_number (λ c. x_in (operands_in c)) p.1 c.in_err-last-in-Some-Labels.ensures.read
    (step (λ c. targets_in (operands_in c)) (λ c. Number (x_in (operands_in c))) c.in_ok-labels-in-Some-Labels.ensures.built
    (labels_start _ _ (table_says _ _ Labels _ c.immediate_form.ensures c.in-Some-Labels.is c.in-Some-Labels.field-0-is)))

pub returns-in_err-signed_32-in-Some-Constant32-clause-built : goal.returns-in_err-signed_32-in-Some-Constant32-clause-built
returns-in_err-signed_32-in-Some-Constant32-clause-built c =
    let p = err_from_is_err_and c.from_residual-in_err-signed_32-in-Some-Constant32.result c.from_residual-in_err-signed_32-in-Some-Constant32.ensures.1 in
    stop_last_number (λ c. x_in (operands_in c)) p.1 c.in_err-signed_32-in-Some-Constant32.ensures.read
    (constant_start 32 _ _ (table_says _ _ Constant32 _ c.immediate_form.ensures c.in-Some-Constant32.is c.in-Some-Constant32.field-0-is))

pub returns-in_err-signed_64-in-Some-Constant64-clause-built : goal.returns-in_err-signed_64-in-Some-Constant64-clause-built
returns-in_err-signed_64-in-Some-Constant64-clause-built c =
    let p = err_from_is_err_and c.from_residual-in_err-signed_64-in-Some-Constant64.result c.from_residual-in_err-signed_64-in-Some-Constant64.ensures.1 in
    stop_last_number (λ c. x_in (operands_in c)) p.1 c.in_err-signed_64-in-Some-Constant64.ensures.read
    (constant_start 64 _ _ (table_says _ _ Constant64 _ c.immediate_form.ensures c.in-Some-Constant64.is c.in-Some-Constant64.field-0-is))

pub returns-in-Some-Nothing-clause-built : goal.returns-in-Some-Nothing-clause-built
returns-in-Some-Nothing-clause-built c =
    simple_found _ _ _ _ (table_says _ _ Nothing _ c.immediate_form.ensures c.in-Some-Nothing.is c.in-Some-Nothing.field-0-is) c.simple.ensures c.found.ensures

pub returns-in_ok-tag-in-Some-ZeroByte-clause-built : goal.returns-in_ok-tag-in-Some-ZeroByte-clause-built
returns-in_ok-tag-in-Some-ZeroByte-clause-built c =
    memory_built _ _ _ _ _ (table_says _ _ ZeroByte _ c.immediate_form.ensures c.in-Some-ZeroByte.is c.in-Some-ZeroByte.field-0-is) c.in_ok-tag-in-Some-ZeroByte.ensures.passed c.of_memory.ensures

pub returns-in_ok-x-in-Some-Index-clause-built : goal.returns-in_ok-x-in-Some-Index-clause-built
returns-in_ok-x-in-Some-Index-clause-built c =
    index_found _ _ _ _ _ _ (table_says _ _ Index _ c.immediate_form.ensures c.in-Some-Index.is c.in-Some-Index.field-0-is) c.in_ok-x-in-Some-Index.ensures.read c.indexed.ensures
    c.found-in-Some-Index.ensures

pub returns-in_ok-tag-in-Some-IndexAndZero-clause-built : goal.returns-in_ok-tag-in-Some-IndexAndZero-clause-built
returns-in_ok-tag-in-Some-IndexAndZero-clause-built c =
    call_built _ _ _ _ _ _ (table_says _ _ IndexAndZero _ c.immediate_form.ensures c.in-Some-IndexAndZero.is c.in-Some-IndexAndZero.field-0-is) c.in_ok-x-in-Some-IndexAndZero.ensures.read
    c.in_ok-tag-in-Some-IndexAndZero.ensures.passed

pub returns-in_ok-offset-in-Some-Access-clause-built : goal.returns-in_ok-offset-in-Some-Access-clause-built
returns-in_ok-offset-in-Some-Access-clause-built c =
    access_found _ _ _ _ _ _ _ _ (table_says _ _ Access _ c.immediate_form.ensures c.in-Some-Access.is c.in-Some-Access.field-0-is) c.in_ok-align-in-Some-Access.ensures.read
    c.in_ok-offset-in-Some-Access.ensures.read c.accessed.ensures c.found-in-Some-Access.ensures

pub returns-in_ok-last-in-Some-Labels-clause-built : goal.returns-in_ok-last-in-Some-Labels-clause-built
returns-in_ok-last-in-Some-Labels-clause-built c =
    table_built _ _ _ _ _ _ (table_says _ _ Labels _ c.immediate_form.ensures c.in-Some-Labels.is c.in-Some-Labels.field-0-is) c.in_ok-labels-in-Some-Labels.ensures.built
    c.in_ok-last-in-Some-Labels.ensures.read

pub returns-in_ok-signed_32-in-Some-Constant32-clause-built : goal.returns-in_ok-signed_32-in-Some-Constant32-clause-built
returns-in_ok-signed_32-in-Some-Constant32-clause-built c =
    const_32_built _ _ _ _ (table_says _ _ Constant32 _ c.immediate_form.ensures c.in-Some-Constant32.is c.in-Some-Constant32.field-0-is) c.in_ok-signed_32-in-Some-Constant32.ensures.read

pub returns-in_ok-signed_64-in-Some-Constant64-clause-built : goal.returns-in_ok-signed_64-in-Some-Constant64-clause-built
returns-in_ok-signed_64-in-Some-Constant64-clause-built c =
    const_64_built _ _ _ _ (table_says _ _ Constant64 _ c.immediate_form.ensures c.in-Some-Constant64.is c.in-Some-Constant64.field-0-is) c.in_ok-signed_64-in-Some-Constant64.ensures.read

pub returns-in-Some-Float4-clause-built : goal.returns-in-Some-Float4-clause-built
returns-in-Some-Float4-clause-built c =
    never_float _ 4 _ _ _ (table_says _ _ Float4 _ c.immediate_form.ensures c.in-Some-Float4.is c.in-Some-Float4.field-0-is)

pub returns-in-Some-Float8-clause-built : goal.returns-in-Some-Float8-clause-built
returns-in-Some-Float8-clause-built c =
    never_float _ 8 _ _ _ (table_says _ _ Float8 _ c.immediate_form.ensures c.in-Some-Float8.is c.in-Some-Float8.field-0-is)

pub returns-in-Some-Bulk-clause-built : goal.returns-in-Some-Bulk-clause-built
returns-in-Some-Bulk-clause-built c = c.bulk.ensures.built _ (table_says _ _ Bulk _ c.immediate_form.ensures c.in-Some-Bulk.is c.in-Some-Bulk.field-0-is)

pub returns-in-None-clause-built : goal.returns-in-None-clause-built
returns-in-None-clause-built c = never_none _ _ _ _ (table_is_silent _ _ c.immediate_form.ensures c.in-None.is)
