use Rattle.std.proofs.Common.{◌≡◌, ◌+◌, ◌-◌, length}
use Rattle.slim_rewrite.proofs.StackLemmas.{TopTo}
use Rattle.slim_rewrite.proofs.stack.is_top.Given as goal

abbrev pub invariant-loop-arg : goal.invariant-loop-arg
invariant-loop-arg l = record {
  top : TopTo l.stack l.args (length l.stack - length l.args) l.arg-index;
  place : l.place ≡ length l.stack - length l.args + l.arg-index;
}
