use Rattle.live_locals.proofs.SetLemmas.{Joining}
use Rattle.live_locals.proofs.sets.join.Given as goal

abbrev pub invariant-loop-local : goal.invariant-loop-local
invariant-loop-local l = Joining l.fn.set l.other l.set l.local
