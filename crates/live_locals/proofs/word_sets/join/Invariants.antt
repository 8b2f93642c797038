use Rattle.live_locals.proofs.WordLemmas.{WordsJoining}
use Rattle.live_locals.proofs.word_sets.join.Given as goal

abbrev pub invariant-loop-local : goal.invariant-loop-local
invariant-loop-local l = WordsJoining l.fn.set l.other l.set l.local
