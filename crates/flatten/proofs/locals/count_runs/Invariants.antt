use Rattle.std.proofs.Common.{◌≡◌, ◌+◌, drop, length}
use Rattle.wa_types.specs.Modules.{declared_locals}
use Rattle.flatten.proofs.locals.count_runs.Given as goal

abbrev pub invariant-loop-run : goal.invariant-loop-run
invariant-loop-run l = l.count + length (declared_locals (drop l.run-index l.fn.runs)) ≡ length (declared_locals l.fn.runs)
