use Rattle.std.proofs.Common.{◌≡◌, ◌++◌, map, drop}
use Rattle.wa_types.specs.View.{code}
use Rattle.wa_types.specs.Pruned.{pruned}
use Rattle.wa_types.specs.Pausing.{calls_of}
use Rattle.call_graph.specs.Calls.{callee_of}
use Rattle.call_graph.proofs.calls.+put_calls.Given as goal

abbrev pub invariant-put_calls-loop-instr : goal.invariant-put_calls-loop-instr
invariant-put_calls-loop-instr l =
    map callee_of l.out.items ++ calls_of (pruned (code (drop l.instr-index l.body))) ≡ map callee_of l.fn.out.items ++ calls_of (pruned (code l.body))
