use Rattle.live_locals.proofs.LevelLemmas.{Leaving}
use Rattle.live_locals.proofs.levels.leave.Given as goal

abbrev pub invariant-loop-word : goal.invariant-loop-word
invariant-loop-word l = Leaving l.fn.set l.own l.set l.word-index
