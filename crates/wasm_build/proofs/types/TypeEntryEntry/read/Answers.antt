use Rattle.std.proofs.Common.{sym, ◌∙◌}
use Rattle.std.proofs.lemmas.Result.{err_from_is_err_and}
use Rattle.wa_types.specs.View.{func_type_of}
use Rattle.wasm_build.proofs.Steps.{start, step, last, stop, stop_last, step_passed, stop_passed}
use Rattle.wasm_build.proofs.Betweens.{map_same}
use Rattle.wasm_build.proofs.EntryParts.{TypeResults, TypeVectors, TypeParts, type_parts}
use Rattle.wasm_build.proofs.types.TypeEntryEntry.read.Goals as goal

pub returns-in_err-tag-clause-built : goal.returns-in_err-tag-clause-built
returns-in_err-tag-clause-built c =
    let p = err_from_is_err_and c.from_residual.result c.from_residual.ensures.1 in
    stop_passed TypeVectors p.1 c.in_err-tag.ensures.passed (start TypeParts _ type_parts)

pub returns-in_err-params-clause-built : goal.returns-in_err-params-clause-built
returns-in_err-params-clause-built c =
    let p = err_from_is_err_and c.from_residual-in_err-params.result c.from_residual-in_err-params.ensures.1 in
    stop (λ t. t.params) TypeResults p.1 p.2 c.in_err-params.ensures.built (step_passed TypeVectors c.in_ok-tag.ensures.passed (start TypeParts _ type_parts))

pub returns-in_err-results-clause-built : goal.returns-in_err-results-clause-built
returns-in_err-results-clause-built c =
    let p = err_from_is_err_and c.from_residual-in_err-results.result c.from_residual-in_err-results.ensures.1 in
    stop_last (λ t. t.results) p.1 p.2 c.in_err-results.ensures.built (step (λ t. t.params) TypeResults c.in_ok-params.ensures.built
    (step_passed TypeVectors c.in_ok-tag.ensures.passed (start TypeParts _ type_parts)))

pub returns-clause-built : goal.returns-clause-built
returns-clause-built c =
    last func_type_of _ (λ t. t.results) c.in_ok-results.ensures.built (λ t k e i. record { params = (sym (map_same _) ∙ k.1) i; results = (sym (map_same _) ∙ e) i })
    (step (λ t. t.params) TypeResults c.in_ok-params.ensures.built (step_passed TypeVectors c.in_ok-tag.ensures.passed (start TypeParts _ type_parts)))
