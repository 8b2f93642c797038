use Rattle.std.proofs.Common.{◌≡◌, ◌++◌, drop}
use Rattle.wa_types.specs.Modules.{declared_locals}
use Rattle.flatten.proofs.locals.put_runs.Given as goal

abbrev pub invariant-loop-run : goal.invariant-loop-run
invariant-loop-run l = l.out.items ++ declared_locals (drop l.run-index l.fn.runs) ≡ l.fn.out.items ++ declared_locals l.fn.runs
