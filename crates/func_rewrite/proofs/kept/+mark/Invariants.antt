use Rattle.std.proofs.Common.{drop}
use Rattle.run_theory.specs.FlatView.{stmts}
use Rattle.func_rewrite.proofs.MarkLemmas.{Going}
use Rattle.func_rewrite.proofs.kept.+mark.Given as goal

abbrev pub invariant-mark_body-loop-stmt : goal.invariant-mark_body-loop-stmt
invariant-mark_body-loop-stmt l = Going l.numbers l.place (stmts l.body) l.fn.kept l.next l.kept (stmts (drop l.stmt-index l.body))
