use Rattle.std.proofs.Common.{arith, refl}
use Rattle.live_locals.proofs.LevelLemmas.{met_step}
use Rattle.live_locals.proofs.levels.met.Goals as goal

pub loop-local-preserved : goal.loop-local-preserved
loop-local-preserved c = met_step c.loop-local.set c.args.words.now c.args.reach.now c.loop-local.local _ c.loop-local.invariant (omega (arith, c.loop-local.auto.set, c.loop-local-test.true)) refl

pub returns : goal.returns
returns c = λ x lt. c.loop-local.invariant x (omega (arith, lt, c.loop-local-test.false))
