use Rattle.std.proofs.Common.{arith}
use Rattle.live_locals.proofs.SetLemmas.{emptied}
use Rattle.live_locals.proofs.sets.empty.Goals as goal

pub returns : goal.returns
returns c = emptied c.args.set.now c.loop-told.set c.loop-told.auto.set (λ x lt. c.loop-told.invariant x (omega (arith, lt, c.loop-told-test.false, c.loop-told.auto.told-index-end)))
