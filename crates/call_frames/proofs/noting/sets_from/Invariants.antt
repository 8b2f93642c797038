use Rattle.call_frames.proofs.NotedSets.{NotedBelow}
use Rattle.call_frames.proofs.noting.sets_from.Given as goal

abbrev pub invariant-loop-local : goal.invariant-loop-local
invariant-loop-local l = NotedBelow l.keepers l.count l.local l.sets.items
