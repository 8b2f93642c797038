use Rattle.std.proofs.Common.{arith}
use Rattle.live_locals.proofs.WordLemmas.{words_emptied}
use Rattle.live_locals.proofs.word_sets.empty.Goals as goal

pub returns : goal.returns
returns c = words_emptied c.args.set.now c.loop-word.set c.loop-word.auto.set (λ x lt. c.loop-word.invariant x (omega (arith, lt, c.loop-word-test.false, c.loop-word.auto.word-index-end)))
