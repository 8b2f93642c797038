use Rattle.std.proofs.Common.{◌+◌, ◌*◌, drop}
use Rattle.run_theory.specs.Flat.{no_more}
use Rattle.run_theory.specs.FlatView.{stmt_in_front, stmts}
use Rattle.flow_rewrite.proofs.StmtWeights.{weight}
use Rattle.slim_rewrite.specs.Gathering.{GatheredTo}
use Rattle.slim_rewrite.proofs.gathering.+gather.Given as goal

abbrev pub invariant-gather_sequence-loop-stmt : goal.invariant-gather_sequence-loop-stmt
invariant-gather_sequence-loop-stmt l = GatheredTo l.numbers l.place (stmts l.body) l.at l.all.value (stmts (drop l.stmt-index l.body))

abbrev pub decreases-gather_sequence : goal.decreases-gather_sequence
decreases-gather_sequence l = 2 * weight (stmts l.body.now) + 1

abbrev pub decreases-gather_stmt : goal.decreases-gather_stmt
decreases-gather_stmt l = 2 * weight (stmt_in_front l.stmt.now no_more)
