use Rattle.std.proofs.Common.{◌≡◌, ◌+◌, ◌-◌, ◌*◌, drop}
use Rattle.wa_model.specs.declared.flat.Operand.TheVariants.{Local}
use Rattle.wa_types.specs.Syntax.{a_block, a_loop}
use Rattle.run_theory.specs.Flat.{decides, nests, no_more}
use Rattle.run_theory.specs.FlatView.{stmt_in_front, stmts}
use Rattle.flow_rewrite.proofs.StmtWeights.{weight}
use Rattle.slim_rewrite.proofs.WalkLemmas.{Walked}
use Rattle.slim_rewrite.proofs.walk.+write.Given as goal

abbrev pub invariant-write_sequence-loop-stmt : goal.invariant-write_sequence-loop-stmt
invariant-write_sequence-loop-stmt l = record {
  walked : Walked l.numbers l.fn.at l.place (stmts l.body) l.at l.all.value (stmts (drop l.stmt-index l.body));
  next : l.next ≡ l.stmt-index;
}

abbrev pub decreases-write_sequence : goal.decreases-write_sequence
decreases-write_sequence l = 4 * weight (stmts l.body.now) + 1

abbrev pub decreases-write_inside : goal.decreases-write_inside
decreases-write_inside l = 4 * weight (stmts l.body.now) + 2

abbrev pub decreases-write_stmt : goal.decreases-write_stmt
decreases-write_stmt l = 4 * weight (stmt_in_front l.stmt.now no_more)

abbrev pub decreases-write_if : goal.decreases-write_if
decreases-write_if l = 4 * weight (decides (Local l.x) (stmts l.then_arm.now) (stmts l.else_arm.now) no_more) - 1

abbrev pub decreases-write_block : goal.decreases-write_block
decreases-write_block l = 4 * weight (nests a_block (stmts l.body.now) no_more) - 1

abbrev pub decreases-write_loop : goal.decreases-write_loop
decreases-write_loop l = 4 * weight (nests a_loop (stmts l.body.now) no_more) - 1
