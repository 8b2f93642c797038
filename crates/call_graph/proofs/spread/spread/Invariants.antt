use Rattle.std.proofs.Common.{◌+◌, length}
use Rattle.call_graph.specs.Graph.{untold}
use Rattle.call_graph.proofs.SpreadLemmas.{Spreading}
use Rattle.call_graph.proofs.spread.spread.Given as goal

abbrev pub invariant-loop-func : goal.invariant-loop-func
invariant-loop-func l = Spreading l.callers l.fn.told l.told l.pending.items

abbrev pub decreases-loop-func : goal.decreases-loop-func
decreases-loop-func l = untold l.told + length l.pending.items
