use Rattle.std.proofs.Common.{take}
use Rattle.call_graph.specs.Graph.{Tells}
use Rattle.call_graph.proofs.spread.tell.Given as goal

abbrev pub invariant-loop-func : goal.invariant-loop-func
invariant-loop-func l = Tells (take l.func-index l.funcs) l.fn.told l.told l.fn.pending.items l.pending.items
