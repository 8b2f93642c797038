use Rattle.live_locals.proofs.WordLemmas.{SetJoining}
use Rattle.live_locals.proofs.word_sets.join_everywhere.Given as goal

abbrev pub invariant-loop-local : goal.invariant-loop-local
invariant-loop-local l = SetJoining l.fn.set l.other l.set l.local
