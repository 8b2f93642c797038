use Rattle.std.proofs.lemmas.Result.{err_from_is_err_and}
use Rattle.wasm_build.proofs.Betweens.{onto_built, onto_stop}
use Rattle.wasm_build.proofs.entry.put.Goals as goal

pub returns-in_err-item-clause-built : goal.returns-in_err-item-clause-built
returns-in_err-item-clause-built g c =
    let p = err_from_is_err_and c.from_residual.result c.from_residual.ensures.1 in
    onto_stop _ _ p.1 p.2 c.in_err-item.ensures.built

pub returns-clause-built : goal.returns-clause-built
returns-clause-built g c = onto_built _ _ _ c.in_ok-push.ensures.items c.in_ok-item.ensures.built
