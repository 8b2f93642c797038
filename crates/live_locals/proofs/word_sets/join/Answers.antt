use Rattle.std.proofs.Common.{length}
use Rattle.live_locals.proofs.WordLemmas.{words_joining_end, one_is_full}
use Rattle.live_locals.proofs.word_sets.join.Goals as goal

pub returns : goal.returns
returns c = words_joining_end c.args.set.now c.args.other.now c.loop-local.set c.loop-local.local c.loop-local.invariant
    (one_is_full c.min-count.result (length c.args.set.now) (length c.args.other.now) c.loop-local.local c.min-count.ensures c.loop-local-test.false)
