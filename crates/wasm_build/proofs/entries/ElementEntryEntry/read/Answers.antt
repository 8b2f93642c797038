use Rattle.std.proofs.Common.{sym, ◌∙◌}
use Rattle.std.proofs.lemmas.Result.{err_from_is_err_and}
use Rattle.wa_types.specs.View.{elem_of}
use Rattle.wa_types.specs.Spells.{◌▸◌, Number, Vector}
use Rattle.wasm_build.specs.BuildsCode.{SpelledExpression}
use Rattle.wasm_build.proofs.Betweens.{map_same}
use Rattle.wasm_build.proofs.Steps.{start, step, step_number, last, stop, stop_last}
use Rattle.wasm_build.proofs.CodeEntries.{ElementParts, element_parts}
use Rattle.wasm_build.proofs.entries.ElementEntryEntry.read.Goals as goal

pub returns-in_err-offset-clause-built : goal.returns-in_err-offset-clause-built
returns-in_err-offset-clause-built c =
    let p = err_from_is_err_and c.from_residual-in_err-offset.result c.from_residual-in_err-offset.ensures.1 in
    stop (λ e. e.offset) (λ e. Vector Number e.funcs) p.1 p.2 c.in_err-offset.ensures.built
    (step_number (λ e. e.table) (λ e. SpelledExpression e.offset ▸ Vector Number e.funcs) c.in_ok-table.ensures.read (start ElementParts _ element_parts))

pub returns-in_err-funcs-clause-built : goal.returns-in_err-funcs-clause-built
returns-in_err-funcs-clause-built c =
    let p = err_from_is_err_and c.from_residual-in_err-funcs.result c.from_residual-in_err-funcs.ensures.1 in
    stop_last (λ e. e.funcs) p.1 p.2 c.in_err-funcs.ensures.built (step (λ e. e.offset) (λ e. Vector Number e.funcs) c.in_ok-offset.ensures.built
    (step_number (λ e. e.table) (λ e. SpelledExpression e.offset ▸ Vector Number e.funcs) c.in_ok-table.ensures.read (start ElementParts _ element_parts)))

pub returns-clause-built : goal.returns-clause-built
returns-clause-built c =
    last elem_of _ (λ e. e.funcs) c.in_ok-funcs.ensures.built (λ x k e i. record { table = k.0.1 i; offset = k.1 i; funcs = (sym (map_same _) ∙ e) i })
    (step (λ e. e.offset) (λ e. Vector Number e.funcs) c.in_ok-offset.ensures.built
    (step_number (λ e. e.table) (λ e. SpelledExpression e.offset ▸ Vector Number e.funcs) c.in_ok-table.ensures.read (start ElementParts _ element_parts)))
