use Rattle.std.proofs.Common.{refl}
use Rattle.std.proofs.lemmas.Result.{err_from_is_err_and}
use Rattle.wasm_build.proofs.Betweens.{from_nothing, from_nothing_stop}
use Rattle.wasm_build.proofs.entry.vector.Goals as goal

pub returns-in_err-fill-clause-built : goal.returns-in_err-fill-clause-built
returns-in_err-fill-clause-built g c =
    let p = err_from_is_err_and c.from_residual.result c.from_residual.ensures.1 in
    from_nothing_stop _ _ _ _ c.new-items.ensures.items p.1 p.2 c.in_err-fill.ensures.built

pub returns-clause-built : goal.returns-clause-built
returns-clause-built g c = from_nothing _ _ _ _ _ c.new-items.ensures.items refl c.in_ok-fill.ensures.built
