use Rattle.std.proofs.Common.{◌≡◌, ◌+◌, drop}
use Rattle.run_theory.specs.FlatView.{stmts}
use Rattle.guard_form.specs.Pieces.{call_total}
use Rattle.live_locals.proofs.calls.+count.Given as goal

abbrev pub invariant-count_calls-loop-stmt : goal.invariant-count_calls-loop-stmt
invariant-count_calls-loop-stmt l = l.count + call_total (stmts (drop l.stmt-index l.body)) ≡ l.before + call_total (stmts l.body)
