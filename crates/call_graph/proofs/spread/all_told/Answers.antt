use Rattle.std.proofs.Common.{arith, true, false}
use Rattle.call_graph.proofs.SpreadLemmas.{got_is, places_known, places_more, places_last}
use Rattle.call_graph.proofs.spread.all_told.Goals as goal

pub loop-func-preserved-then-not-told-func : goal.loop-func-preserved-then-not-told-func
loop-func-preserved-then-not-told-func c =
    places_known c.args.told.now c.loop-func.places.items c.loop-func.func (got_is c.args.told.now c.loop-func.func false false
    (omega (arith, c.loop-func-test.true)) c.if-not-told-func.true) c.loop-func.invariant

pub loop-func-preserved : goal.loop-func-preserved
loop-func-preserved c =
    places_more c.args.told.now c.loop-func.places.items c.push.new.self.items c.loop-func.func
    (got_is c.args.told.now c.loop-func.func false true (omega (arith, c.loop-func-test.true)) c.if-not-told-func.false) c.in_ok-push.ensures.items c.loop-func.invariant

pub returns : goal.returns
returns c = places_last c.args.told.now c.loop-func.places.items c.loop-func.func (omega (arith, c.loop-func-test.false)) c.loop-func.invariant
