use Rattle.live_locals.proofs.LevelLemmas.{Entering}
use Rattle.live_locals.proofs.levels.enter.Given as goal

abbrev pub invariant-loop-local : goal.invariant-loop-local
invariant-loop-local l = Entering l.fn.worlds l.head l.own l.worlds l.local
