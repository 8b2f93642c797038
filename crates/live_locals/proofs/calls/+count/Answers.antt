use Rattle.std.proofs.Common.{rules, arith, ap, sym, ◌∙◌}
use Rattle.wa_types.specs.Syntax.{a_block, a_loop}
use Rattle.run_theory.specs.Flat.{no_more, nests, decides}
use Rattle.run_theory.specs.FlatView.{stmts}
use Rattle.wa_model.specs.declared.flat.Stmt.{the_lemmas}
use Rattle.flow_rewrite.proofs.NumberingLemmas.{room_at, call_place, nest_room, if_room, else_room, none_place}
use Rattle.flow_rewrite.proofs.StmtLemmas.{block_is, loop_is, if_is}
use Rattle.live_locals.proofs.RowLemmas.{count_next, count_end, nest_total, if_total}
use Rattle.live_locals.proofs.calls.+count.Goals as goal

pub count_calls-count_stmt_calls-count-requires : goal.count_calls-count_stmt_calls-count-requires
count_calls-count_stmt_calls-count-requires t c = (
  search (rules, the_lemmas),
  room_at c.loop-stmt.count _ c.args.body.now c.loop-stmt.stmt-index c.stmt-item.result (omega (arith, c.loop-stmt-test.true)) c.stmt-item.is c.loop-stmt.invariant c.requires,
)

pub count_calls-loop-stmt-preserved : goal.count_calls-loop-stmt-preserved
count_calls-loop-stmt-preserved t c = count_next c.args.body.now c.loop-stmt.stmt-index c.stmt-item.result c.loop-stmt.count c.count_stmt_calls-count.result _
    (omega (arith, c.loop-stmt-test.true)) c.stmt-item.is c.count_stmt_calls-count.ensures c.loop-stmt.invariant

pub count_calls-returns : goal.count_calls-returns
count_calls-returns t c = count_end c.args.body.now c.loop-stmt.stmt-index c.loop-stmt.count _ (omega (arith, c.loop-stmt-test.false)) c.loop-stmt.invariant

pub count_stmt_calls-overflow_add-result : goal.count_stmt_calls-overflow_add-result
count_stmt_calls-overflow_add-result t c = let q = call_place c.args.before c.args.stmt.now c.in-Call.op c.in-Call.stack c.in-Call.args c.in-Call.to c.in-Call.is in omega (arith, q, c.requires)

pub count_stmt_calls-count_calls-requires : goal.count_stmt_calls-count_calls-requires
count_stmt_calls-count_calls-requires t c = (
  search (rules, the_lemmas),
  nest_room c.args.before c.args.stmt.now a_block (stmts c.deref.result.now)
      (block_is c.args.stmt.now c.in-Block.body c.in-Block.is no_more ∙ ap (λ xs. nests a_block (stmts xs) no_more) (sym c.deref.ensures.value)) c.requires,
)

pub count_stmt_calls-count_calls-requires-in-Loop : goal.count_stmt_calls-count_calls-requires-in-Loop
count_stmt_calls-count_calls-requires-in-Loop t c = (
  search (rules, the_lemmas),
  nest_room c.args.before c.args.stmt.now a_loop (stmts c.deref-in-Loop.result.now)
      (loop_is c.args.stmt.now c.in-Loop.body c.in-Loop.is no_more ∙ ap (λ xs. nests a_loop (stmts xs) no_more) (sym c.deref-in-Loop.ensures.value)) c.requires,
)

pub count_stmt_calls-count_calls-middle-requires : goal.count_stmt_calls-count_calls-middle-requires
count_stmt_calls-count_calls-middle-requires t c = (
  search (rules, the_lemmas),
  if_room c.args.before c.args.stmt.now c.in-If.cond (stmts c.deref-in-If.result.now) (stmts c.in-If.else_arm.items)
      (if_is c.args.stmt.now c.in-If.cond c.in-If.then_arm c.in-If.else_arm c.in-If.is no_more
      ∙ ap (λ xs. decides c.in-If.cond (stmts xs) (stmts c.in-If.else_arm.items) no_more) (sym c.deref-in-If.ensures.value)) c.requires,
)

pub count_stmt_calls-count_calls-requires-in-If : goal.count_stmt_calls-count_calls-requires-in-If
count_stmt_calls-count_calls-requires-in-If t c = (
  search (rules, the_lemmas),
  else_room c.args.before c.count_calls-middle.result c.args.stmt.now c.in-If.cond (stmts c.deref-in-If.result.now) (stmts c.deref-in-If-2.result.now)
      (if_is c.args.stmt.now c.in-If.cond c.in-If.then_arm c.in-If.else_arm c.in-If.is no_more
      ∙ (λ j. decides c.in-If.cond (stmts (sym c.deref-in-If.ensures.value j)) (stmts (sym c.deref-in-If-2.ensures.value j)) no_more)) c.requires c.count_calls-middle.ensures,
)

pub count_stmt_calls-returns-in-Call : goal.count_stmt_calls-returns-in-Call
count_stmt_calls-returns-in-Call t c = call_place c.args.before c.args.stmt.now c.in-Call.op c.in-Call.stack c.in-Call.args c.in-Call.to c.in-Call.is

pub count_stmt_calls-returns-in-Block : goal.count_stmt_calls-returns-in-Block
count_stmt_calls-returns-in-Block t c = nest_total c.args.before _ c.args.stmt.now a_block (stmts c.deref.result.now)
    (block_is c.args.stmt.now c.in-Block.body c.in-Block.is no_more ∙ ap (λ xs. nests a_block (stmts xs) no_more) (sym c.deref.ensures.value)) c.count_calls.ensures

pub count_stmt_calls-returns-in-Loop : goal.count_stmt_calls-returns-in-Loop
count_stmt_calls-returns-in-Loop t c = nest_total c.args.before _ c.args.stmt.now a_loop (stmts c.deref-in-Loop.result.now)
    (loop_is c.args.stmt.now c.in-Loop.body c.in-Loop.is no_more ∙ ap (λ xs. nests a_loop (stmts xs) no_more) (sym c.deref-in-Loop.ensures.value)) c.count_calls-in-Loop.ensures

pub count_stmt_calls-returns-in-If : goal.count_stmt_calls-returns-in-If
count_stmt_calls-returns-in-If t c = if_total c.args.before c.count_calls-middle.result _ c.args.stmt.now c.in-If.cond (stmts c.deref-in-If.result.now) (stmts c.deref-in-If-2.result.now)
    (if_is c.args.stmt.now c.in-If.cond c.in-If.then_arm c.in-If.else_arm c.in-If.is no_more
    ∙ (λ j. decides c.in-If.cond (stmts (sym c.deref-in-If.ensures.value j)) (stmts (sym c.deref-in-If-2.ensures.value j)) no_more)) c.count_calls-middle.ensures c.count_calls-in-If.ensures

pub count_stmt_calls-returns-in_default : goal.count_stmt_calls-returns-in_default
count_stmt_calls-returns-in_default t c = none_place c.args.before c.args.stmt.now c.in_default.not-Call c.in_default.not-Block c.in_default.not-Loop c.in_default.not-If
