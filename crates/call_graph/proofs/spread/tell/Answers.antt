use Rattle.std.proofs.Common.{arith, false}
use Rattle.call_graph.proofs.SpreadLemmas.{tell_known, tell_new}
use Rattle.call_graph.proofs.spread.tell.Goals as goal

pub loop-func-preserved-then-told-func : goal.loop-func-preserved-then-told-func
loop-func-preserved-then-told-func c =
    tell_known c.args.funcs.now c.args.told.now c.loop-func.told c.args.pending.now.items c.loop-func.pending.items c.loop-func.func-index
    (omega (arith, c.loop-func-test.true)) c.loop-func.invariant c.requires false c.if-told-func.true

pub loop-func-preserved : goal.loop-func-preserved
loop-func-preserved c =
    tell_new c.args.funcs.now c.args.told.now c.loop-func.told c.args.pending.now.items c.loop-func.pending.items c.loop-func.func-index
    (omega (arith, c.loop-func-test.true)) c.loop-func.invariant c.requires false c.push.new.self.items c.if-told-func.false c.in_ok-push.ensures.items
