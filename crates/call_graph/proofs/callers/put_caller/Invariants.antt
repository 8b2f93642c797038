use Rattle.std.proofs.Common.{map, take}
use Rattle.call_graph.specs.Calls.{callee_of}
use Rattle.call_graph.specs.Callers.{Puts}
use Rattle.call_graph.proofs.callers.put_caller.Given as goal

abbrev pub invariant-loop-call : goal.invariant-loop-call
invariant-loop-call l = Puts (map callee_of (take l.call-index l.calls)) l.caller l.fn.callers l.callers
