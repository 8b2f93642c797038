use Rattle.std.proofs.Common.{arith}
use Rattle.std.proofs.lemmas.Result.{err_from_is_err_and}
use Rattle.wasm_build.proofs.Betweens.{gotten_none, gotten_more, gotten_stop, gotten_all}
use Rattle.wasm_build.proofs.entry.fill.Goals as goal

pub loop-index-init : goal.loop-index-init
loop-index-init g c = record { left = c.number.ensures.onward.left; gotten = gotten_none _ c.in_ok-count.ensures.read }

pub returns-in_err-item-clause-built : goal.returns-in_err-item-clause-built
returns-in_err-item-clause-built g c =
    let p = err_from_is_err_and c.from_residual-in_err-item.result c.from_residual-in_err-item.ensures.1 in
    gotten_stop _ c.loop-index.invariant.gotten (omega arith) p.1 p.2 c.in_err-item.ensures.built

pub loop-index-preserved : goal.loop-index-preserved
loop-index-preserved g c = record {
  left = omega (arith, c.loop-index.invariant.left, c.in_ok-item.ensures.left);
  gotten = gotten_more c.loop-index.invariant.gotten (omega arith) c.in_ok-item.ensures.built c.in_ok-push.ensures.items;
}

pub returns-clause-built : goal.returns-clause-built
returns-clause-built g c = gotten_all c.loop-index.invariant.gotten (omega arith)
