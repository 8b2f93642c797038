use Rattle.std.proofs.Common.{rules, arith, [], ◌-◌, ap, length, sym, ◌∙◌}
use Rattle.wa_types.specs.Syntax.{a_block, a_loop}
use Rattle.run_theory.specs.Flat.{no_more, nests, decides}
use Rattle.run_theory.specs.FlatView.{stmts}
use Rattle.wa_model.specs.declared.flat.Stmt.{the_lemmas}
use Rattle.flow_rewrite.proofs.StmtLemmas.{block_is, loop_is, if_is}
use Rattle.live_locals.proofs.SetLemmas.{put_back}
use Rattle.live_locals.proofs.CodeLemmas.{ops_at}
use Rattle.live_locals.proofs.PassLemmas.{passed_first, passed_before, nest_ops, then_ops, else_ops, holds_none, block_passed, loop_passed, if_passed}
use Rattle.live_locals.proofs.passes.+pass.Goals as goal

pub pass_body-loop-left-init : goal.pass_body-loop-left-init
pass_body-loop-left-init t c = (omega arith, passed_first c.args.tos.now.items c.args.set.now c.args.body.now)

pub pass_body-pass_stmt-requires : goal.pass_body-pass_stmt-requires
pass_body-pass_stmt-requires t c = (
  search (rules, the_lemmas),
  ops_at c.args.body.now (c.loop-left.left - 1) c.index-body-left.result (omega (arith, c.loop-left-test.true, c.loop-left.invariant.0)) c.index-body-left.is c.requires,
)

pub pass_body-loop-left-preserved : goal.pass_body-loop-left-preserved
pass_body-loop-left-preserved t c = (
  omega (arith, c.loop-left.invariant.0),
  passed_before c.args.tos.now.items c.loop-left.tos.items c.pass_stmt.new.tos.items c.args.set.now c.loop-left.set c.pass_stmt.new.set c.args.body.now c.loop-left.left c.index-body-left.result
      (omega (arith, c.loop-left-test.true)) c.loop-left.invariant.0 c.index-body-left.is c.loop-left.invariant.1 c.in_ok-pass_stmt.ensures,
)

pub pass_stmt-pass_body-requires : goal.pass_stmt-pass_body-requires
pass_stmt-pass_body-requires t c = (
  search (rules, the_lemmas),
  nest_ops c.args.stmt.now [] a_block (stmts c.deref.result.now)
      (block_is c.args.stmt.now c.in-Block.body c.in-Block.is no_more ∙ ap (λ xs. nests a_block (stmts xs) no_more) (sym c.deref.ensures.value)) c.requires,
)

pub pass_stmt-pass_body-requires-in-Loop : goal.pass_stmt-pass_body-requires-in-Loop
pass_stmt-pass_body-requires-in-Loop t c = (
  search (rules, the_lemmas),
  nest_ops c.args.stmt.now [] a_loop (stmts c.deref-in-Loop.result.now)
      (loop_is c.args.stmt.now c.in-Loop.body c.in-Loop.is no_more ∙ ap (λ xs. nests a_loop (stmts xs) no_more) (sym c.deref-in-Loop.ensures.value)) c.requires,
)

pub pass_stmt-pass_body-requires-in-If : goal.pass_stmt-pass_body-requires-in-If
pass_stmt-pass_body-requires-in-If t c = (
  search (rules, the_lemmas),
  else_ops c.args.stmt.now [] c.in-If.cond (stmts c.in-If.then_arm.items) (stmts c.deref-in-If.result.now)
      (if_is c.args.stmt.now c.in-If.cond c.in-If.then_arm c.in-If.else_arm c.in-If.is no_more
      ∙ ap (λ xs. decides c.in-If.cond (stmts c.in-If.then_arm.items) (stmts xs) no_more) (sym c.deref-in-If.ensures.value)) c.requires,
)

pub pass_stmt-pass_body-requires-in-If-2 : goal.pass_stmt-pass_body-requires-in-If-2
pass_stmt-pass_body-requires-in-If-2 t c = (
  search (rules, the_lemmas),
  then_ops c.args.stmt.now [] c.in-If.cond (stmts c.deref-in-If-2.result.now) (stmts c.in-If.else_arm.items)
      (if_is c.args.stmt.now c.in-If.cond c.in-If.then_arm c.in-If.else_arm c.in-If.is no_more
      ∙ ap (λ xs. decides c.in-If.cond (stmts xs) (stmts c.in-If.else_arm.items) no_more) (sym c.deref-in-If-2.ensures.value)) c.requires,
)

pub pass_stmt-pass_simple-requires : goal.pass_stmt-pass_simple-requires
pass_stmt-pass_simple-requires t c = record { ops = c.requires; simple = holds_none c.args.stmt.now c.in_default.not-Block c.in_default.not-Loop c.in_default.not-If }

pub pass_stmt-returns-in_ok-pass_body-in-Block : goal.pass_stmt-returns-in_ok-pass_body-in-Block
pass_stmt-returns-in_ok-pass_body-in-Block t c = block_passed c.args.stmt.now c.args.tos.now.items
    (stmts c.deref.result.now) c.in_ok-copied-in-Block.field-0 c.pass_body.new.tos c.push.new.self.items c.pop.new.self.items c.args.set.now c.pass_body.new.set
    (block_is c.args.stmt.now c.in-Block.body c.in-Block.is no_more ∙ ap (λ xs. nests a_block (stmts xs) no_more) (sym c.deref.ensures.value)) c.in_ok-copied-in-Block.ensures
    c.in_ok-push-in-Block.ensures.items
    c.in_ok-pass_body-in-Block.ensures c.pop.ensures.rest

pub pass_stmt-returns-in_ok-pass_body-in-Loop : goal.pass_stmt-returns-in_ok-pass_body-in-Loop
pass_stmt-returns-in_ok-pass_body-in-Loop t c = loop_passed c.args.stmt.now c.args.tos.now.items
    (stmts c.deref-in-Loop.result.now) c.new.result c.pass_body-in-Loop.new.tos c.push-in-Loop.new.self.items c.pop-in-Loop.new.self.items c.args.set.now c.pass_body-in-Loop.new.set
    (loop_is c.args.stmt.now c.in-Loop.body c.in-Loop.is no_more ∙ ap (λ xs. nests a_loop (stmts xs) no_more) (sym c.deref-in-Loop.ensures.value)) c.new.ensures.items
    c.in_ok-push-in-Loop.ensures.items
    c.in_ok-pass_body-in-Loop.ensures c.pop-in-Loop.ensures.rest

pub pass_stmt-returns-in_ok-pass_body-in-If-2 : goal.pass_stmt-returns-in_ok-pass_body-in-If-2
pass_stmt-returns-in_ok-pass_body-in-If-2 t c = if_passed c.args.stmt.now c.args.tos.now.items c.in-If.cond (stmts c.deref-in-If-2.result.now)
    (stmts c.deref-in-If.result.now) c.in_ok-copied-in-If.field-0
    c.pass_body-in-If.new.tos.items c.pass_body-in-If-2.new.tos c.push-in-If.new.self.items c.pop-in-If.new.self.items
    c.args.set.now c.deref_mut.result.now c.pass_body-in-If-2.new.set c.deref-in-If-3.result.now c.pass_body-in-If.new.set c.join.new.set c.read_operand.new.set
    (if_is c.args.stmt.now c.in-If.cond c.in-If.then_arm c.in-If.else_arm c.in-If.is no_more
    ∙ (λ j. decides c.in-If.cond (stmts (sym c.deref-in-If-2.ensures.value j)) (stmts (sym c.deref-in-If.ensures.value j)) no_more))
    c.in_ok-copied-in-If.ensures (c.deref_mut.ensures.value ∙ c.in_ok-other-in-If.ensures)
    (c.deref-in-If-3.ensures.value ∙ put_back c.pass_body-in-If-2.new.set c.in_ok-other-in-If.other.items c.in_ok-other-in-If.other.len (c.in_ok-pass_body-in-If-2.ensures.tells.size
    ∙ ap length c.deref_mut.ensures.value) (sym c.in_ok-other-in-If.other.ok.0))
    c.in_ok-push-in-If.ensures.items c.in_ok-pass_body-in-If.ensures c.in_ok-pass_body-in-If-2.ensures c.pop-in-If.ensures.rest c.join.auto.set c.join.ensures c.read_operand.ensures
