use Rattle.std.proofs.lemmas.Result.{err_from_is_err_and}
use Rattle.wa_types.specs.View.{global_of}
use Rattle.wasm_build.specs.BuildsCode.{SpelledExpression}
use Rattle.wasm_build.proofs.Steps.{start, step, last, stop, stop_last}
use Rattle.wasm_build.proofs.CodeEntries.{GlobalParts, global_def_parts}
use Rattle.wasm_build.proofs.entries.GlobalEntryEntry.read.Goals as goal

pub returns-in_err-ty-clause-built : goal.returns-in_err-ty-clause-built
returns-in_err-ty-clause-built c =
    let p = err_from_is_err_and c.from_residual.result c.from_residual.ensures.1 in
    stop (λ g. (g.ty, g.mutable)) (λ g. SpelledExpression g.init) p.1 p.2 c.in_err-ty.ensures.built (start GlobalParts _ global_def_parts)

pub returns-in_err-init-clause-built : goal.returns-in_err-init-clause-built
returns-in_err-init-clause-built c =
    let p = err_from_is_err_and c.from_residual-in_err-init.result c.from_residual-in_err-init.ensures.1 in
    stop_last (λ g. g.init) p.1 p.2 c.in_err-init.ensures.built (step (λ g. (g.ty, g.mutable)) (λ g. SpelledExpression g.init) c.in_ok-ty.ensures.built (start GlobalParts _ global_def_parts))

pub returns-clause-built : goal.returns-clause-built
returns-clause-built c =
    last global_of _ (λ g. g.init) c.in_ok-init.ensures.built (λ g k e i. record { ty = (k.1 i).0; mutable = (k.1 i).1; init = e i })
    (step (λ g. (g.ty, g.mutable)) (λ g. SpelledExpression g.init) c.in_ok-ty.ensures.built (start GlobalParts _ global_def_parts))
