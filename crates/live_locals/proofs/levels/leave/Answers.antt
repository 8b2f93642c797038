use Rattle.std.proofs.Common.{arith}
use Rattle.live_locals.proofs.LevelLemmas.{leaving_first, leaving_more, leaving_end}
use Rattle.live_locals.proofs.levels.leave.Goals as goal

pub loop-word-init : goal.loop-word-init
loop-word-init c = leaving_first c.args.set.now c.own_word-own.result

pub loop-word-preserved : goal.loop-word-preserved
loop-word-preserved c = leaving_more c.args.set.now c.own_word-own.result c.loop-word.set c.loop-word.word-index c.left.result c.loop-word.invariant
    (omega (arith, c.loop-word-test.true, c.loop-word.auto.set)) c.left.ensures

pub returns : goal.returns
returns c = leaving_end c.args.set.now c.own_word-own.result c.loop-word.set c.loop-word.word-index c.args.level c.loop-word.invariant c.loop-word.auto.set c.loop-word-test.false
    c.own_word-own.ensures
