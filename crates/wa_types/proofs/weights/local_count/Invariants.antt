use Rattle.std.proofs.Common.{◌≡◌, ◌+◌, length, drop}
use Rattle.wa_types.specs.Modules.{declared_locals}
use Rattle.wa_types.proofs.weights.local_count.Given as goal

abbrev pub invariant-loop-run : goal.invariant-loop-run
invariant-loop-run l = l.n + length (declared_locals (drop l.run-index l.runs)) ≡ length (declared_locals l.runs)
