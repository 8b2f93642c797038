use Rattle.std.proofs.Common.{◌≡◌, ◌≤◌, ◌-◌, ℕ, [], length}
use Rattle.call_graph.specs.Graph.{callers_at}
use Rattle.call_graph.proofs.callers.no_callers.Given as goal

abbrev pub invariant-loop-alloc : goal.invariant-loop-alloc
invariant-loop-alloc l = record {
  len : length l.callers.items ≤ l.count;
  none : (y : ℕ) → callers_at l.callers.items y ≡ [];
}

abbrev pub decreases-loop-alloc : goal.decreases-loop-alloc
decreases-loop-alloc l = l.count - length l.callers.items
