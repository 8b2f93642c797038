use Rattle.live_locals.proofs.WordLemmas.{words_write_here, words_write_past}
use Rattle.live_locals.proofs.word_sets.write.Goals as goal

pub returns-then-local-set : goal.returns-then-local-set
returns-then-local-set c = words_write_here c.args.set.now c.args.local c.if-local-set.true

pub returns-else-local-set : goal.returns-else-local-set
returns-else-local-set c = words_write_past c.args.set.now c.args.local c.if-local-set.false
