use Rattle.std.proofs.Common.{sym, ◌∙◌}
use Rattle.std.proofs.lemmas.Result.{err_from_is_err_and}
use Rattle.wasm_build.specs.BuildsCode.{SpelledExpression}
use Rattle.wasm_build.specs.BuildsSections.{body_of}
use Rattle.wasm_build.proofs.Betweens.{map_same}
use Rattle.wasm_build.proofs.Steps.{step, step_size, last, stop, stop_last}
use Rattle.wasm_build.proofs.CodeEntries.{BodyParts, body_sized}
use Rattle.wasm_build.proofs.entries.CodeEntryEntry.read.Goals as goal

pub returns-in_err-locals-clause-built : goal.returns-in_err-locals-clause-built
returns-in_err-locals-clause-built c =
    let p = err_from_is_err_and c.from_residual-in_err-locals.result c.from_residual-in_err-locals.ensures.1 in
    stop (λ b. b.locals) (λ b. SpelledExpression b.code) p.1 p.2 c.in_err-locals.ensures.built (step_size BodyParts c.in_ok-_size.ensures.read body_sized)

pub returns-in_err-code-clause-built : goal.returns-in_err-code-clause-built
returns-in_err-code-clause-built c =
    let p = err_from_is_err_and c.from_residual-in_err-code.result c.from_residual-in_err-code.ensures.1 in
    stop_last (λ b. b.code) p.1 p.2 c.in_err-code.ensures.built (step (λ b. b.locals) (λ b. SpelledExpression b.code) c.in_ok-locals.ensures.built
    (step_size BodyParts c.in_ok-_size.ensures.read body_sized))

pub returns-clause-built : goal.returns-clause-built
returns-clause-built c =
    last body_of _ (λ b. b.code) c.in_ok-code.ensures.built (λ x k e i. record { locals = (sym (map_same _) ∙ k.1) i; code = e i })
    (step (λ b. b.locals) (λ b. SpelledExpression b.code) c.in_ok-locals.ensures.built (step_size BodyParts c.in_ok-_size.ensures.read body_sized))
