use Rattle.std.proofs.Common.{rules, arith, ap, sym, subst, length, All, ◌<◌, ◌∙◌}
use Rattle.std.specs.Prelude.{◌||◌, ◌&&◌, nat_eq, get_or, false}
use Rattle.std.specs.List.{list_any}
use Rattle.guard_form.specs.Grouping.{is_place}
use Rattle.wa_types.specs.Syntax.{a_block, a_loop}
use Rattle.run_theory.specs.Flat.{no_more, nests, decides}
use Rattle.run_theory.specs.FlatView.{stmts}
use Rattle.wa_model.specs.declared.flat.Stmt.{the_lemmas}
use Rattle.flow_rewrite.proofs.StmtLemmas.{block_is, loop_is, if_is}
use Rattle.func_rewrite.proofs.MarkLemmas.{going_first, going_one, going_next, going_end, call_fits, call_place, call_marked, nest_ready, nest_place, nest_marked, if_ready, else_ready, if_place, if_marked, none_marked}
use Rattle.func_rewrite.proofs.kept.+mark.Goals as goal

pub mark_body-loop-stmt-init : goal.mark_body-loop-stmt-init
mark_body-loop-stmt-init t c = going_first c.args.numbers.now c.args.place c.args.body.now c.args.kept.now c.requires

pub mark_body-mark_stmt-next-requires : goal.mark_body-mark_stmt-next-requires
mark_body-mark_stmt-next-requires t c = (
  search (rules, the_lemmas),
  going_one c.args.numbers.now c.args.place c.args.body.now c.args.kept.now c.loop-stmt.next c.loop-stmt.kept
      c.loop-stmt.stmt-index c.loop-stmt.invariant c.stmt-item.result (omega (arith, c.loop-stmt-test.true)) c.stmt-item.is c.requires,
)

pub mark_body-loop-stmt-preserved : goal.mark_body-loop-stmt-preserved
mark_body-loop-stmt-preserved t c = going_next c.args.numbers.now c.args.place c.args.body.now c.args.kept.now c.loop-stmt.next c.loop-stmt.kept c.loop-stmt.stmt-index c.loop-stmt.invariant
    c.stmt-item.result (omega (arith, c.loop-stmt-test.true)) c.stmt-item.is _ _ c.mark_stmt-next.ensures.place c.mark_stmt-next.ensures.marked

pub mark_body-returns-clause-place : goal.mark_body-returns-clause-place
mark_body-returns-clause-place t c = (going_end c.args.numbers.now c.args.place c.args.body.now c.args.kept.now c.loop-stmt.next c.loop-stmt.kept c.loop-stmt.stmt-index
    c.loop-stmt.invariant (omega (arith, c.loop-stmt-test.false))).0

pub mark_body-returns-clause-marked : goal.mark_body-returns-clause-marked
mark_body-returns-clause-marked t c = (going_end c.args.numbers.now c.args.place c.args.body.now c.args.kept.now c.loop-stmt.next c.loop-stmt.kept c.loop-stmt.stmt-index
    c.loop-stmt.invariant (omega (arith, c.loop-stmt-test.false))).1

pub mark_stmt-mark_call-requires-clause-fits : goal.mark_stmt-mark_call-requires-clause-fits
mark_stmt-mark_call-requires-clause-fits t c = subst (All (λ x. x < length c.args.kept.now)) (sym c.deref.ensures.value)
    (call_fits c.args.numbers.now c.args.place c.args.stmt.now c.args.kept.now c.in-Call.op c.in-Call.stack c.in-Call.args c.in-Call.to c.in-Call.is c.requires)

pub mark_stmt-overflow_add-result : goal.mark_stmt-overflow_add-result
mark_stmt-overflow_add-result t c = let q = call_place c.args.numbers.now c.args.place c.args.stmt.now c.args.kept.now c.in-Call.op c.in-Call.stack c.in-Call.args c.in-Call.to c.in-Call.is
    in omega (arith, q, c.requires.room)

pub mark_stmt-returns-in-Call-clause-place : goal.mark_stmt-returns-in-Call-clause-place
mark_stmt-returns-in-Call-clause-place t c = call_place c.args.numbers.now c.args.place c.args.stmt.now c.args.kept.now c.in-Call.op c.in-Call.stack c.in-Call.args c.in-Call.to c.in-Call.is

pub mark_stmt-returns-in-Call-clause-marked : goal.mark_stmt-returns-in-Call-clause-marked
mark_stmt-returns-in-Call-clause-marked t c = call_marked c.args.numbers.now c.args.place c.args.stmt.now c.args.kept.now c.in-Call.op c.in-Call.stack c.in-Call.args c.in-Call.to
    c.in-Call.is _ c.mark_call.auto.kept (λ y. c.mark_call.ensures y ∙ ap (λ xs. get_or c.args.kept.now y false || (is_place c.args.numbers.now c.args.place && list_any (nat_eq y) xs))
    c.deref.ensures.value)

pub mark_stmt-mark_body-requires : goal.mark_stmt-mark_body-requires
mark_stmt-mark_body-requires t c = (
  search (rules, the_lemmas),
  nest_ready c.args.numbers.now c.args.place c.args.stmt.now c.args.kept.now a_block (stmts c.deref-in-Block.result.now)
      (block_is c.args.stmt.now c.in-Block.body c.in-Block.is no_more ∙ ap (λ xs. nests a_block (stmts xs) no_more) (sym c.deref-in-Block.ensures.value)) c.requires,
)

pub mark_stmt-returns-in-Block-clause-place : goal.mark_stmt-returns-in-Block-clause-place
mark_stmt-returns-in-Block-clause-place t c = nest_place c.args.numbers.now c.args.place c.args.stmt.now c.args.kept.now a_block (stmts c.deref-in-Block.result.now)
    (block_is c.args.stmt.now c.in-Block.body c.in-Block.is no_more ∙ ap (λ xs. nests a_block (stmts xs) no_more) (sym c.deref-in-Block.ensures.value)) _ c.mark_body.ensures.place

pub mark_stmt-returns-in-Block-clause-marked : goal.mark_stmt-returns-in-Block-clause-marked
mark_stmt-returns-in-Block-clause-marked t c = nest_marked c.args.numbers.now c.args.place c.args.stmt.now c.args.kept.now a_block (stmts c.deref-in-Block.result.now)
    (block_is c.args.stmt.now c.in-Block.body c.in-Block.is no_more ∙ ap (λ xs. nests a_block (stmts xs) no_more) (sym c.deref-in-Block.ensures.value)) _ c.mark_body.ensures.marked

pub mark_stmt-mark_body-requires-in-Loop : goal.mark_stmt-mark_body-requires-in-Loop
mark_stmt-mark_body-requires-in-Loop t c = (
  search (rules, the_lemmas),
  nest_ready c.args.numbers.now c.args.place c.args.stmt.now c.args.kept.now a_loop (stmts c.deref-in-Loop.result.now)
      (loop_is c.args.stmt.now c.in-Loop.body c.in-Loop.is no_more ∙ ap (λ xs. nests a_loop (stmts xs) no_more) (sym c.deref-in-Loop.ensures.value)) c.requires,
)

pub mark_stmt-returns-in-Loop-clause-place : goal.mark_stmt-returns-in-Loop-clause-place
mark_stmt-returns-in-Loop-clause-place t c = nest_place c.args.numbers.now c.args.place c.args.stmt.now c.args.kept.now a_loop (stmts c.deref-in-Loop.result.now)
    (loop_is c.args.stmt.now c.in-Loop.body c.in-Loop.is no_more ∙ ap (λ xs. nests a_loop (stmts xs) no_more) (sym c.deref-in-Loop.ensures.value)) _ c.mark_body-in-Loop.ensures.place

pub mark_stmt-returns-in-Loop-clause-marked : goal.mark_stmt-returns-in-Loop-clause-marked
mark_stmt-returns-in-Loop-clause-marked t c = nest_marked c.args.numbers.now c.args.place c.args.stmt.now c.args.kept.now a_loop (stmts c.deref-in-Loop.result.now)
    (loop_is c.args.stmt.now c.in-Loop.body c.in-Loop.is no_more ∙ ap (λ xs. nests a_loop (stmts xs) no_more) (sym c.deref-in-Loop.ensures.value)) _ c.mark_body-in-Loop.ensures.marked

pub mark_stmt-mark_body-middle-requires : goal.mark_stmt-mark_body-middle-requires
mark_stmt-mark_body-middle-requires t c = (
  search (rules, the_lemmas),
  if_ready c.args.numbers.now c.args.place c.args.stmt.now c.args.kept.now c.in-If.cond (stmts c.deref-in-If.result.now)
      (stmts c.in-If.else_arm.items) (if_is c.args.stmt.now c.in-If.cond c.in-If.then_arm c.in-If.else_arm c.in-If.is no_more
      ∙ ap (λ xs. decides c.in-If.cond (stmts xs) (stmts c.in-If.else_arm.items) no_more) (sym c.deref-in-If.ensures.value)) c.requires,
)

pub mark_stmt-mark_body-requires-in-If : goal.mark_stmt-mark_body-requires-in-If
mark_stmt-mark_body-requires-in-If t c = (
  search (rules, the_lemmas),
  else_ready c.args.numbers.now c.args.place c.args.stmt.now c.args.kept.now c.in-If.cond
      (stmts c.deref-in-If.result.now) (stmts c.deref-in-If-2.result.now) (if_is c.args.stmt.now c.in-If.cond c.in-If.then_arm c.in-If.else_arm c.in-If.is no_more
      ∙ (λ j. decides c.in-If.cond (stmts (sym c.deref-in-If.ensures.value j)) (stmts (sym c.deref-in-If-2.ensures.value j)) no_more)) c.mark_body-middle.result c.mark_body-middle.new.kept
      c.mark_body-middle.ensures.place c.mark_body-middle.ensures.marked c.requires,
)

pub mark_stmt-returns-in-If-clause-place : goal.mark_stmt-returns-in-If-clause-place
mark_stmt-returns-in-If-clause-place t c = if_place c.args.numbers.now c.args.place c.args.stmt.now c.args.kept.now c.in-If.cond (stmts c.deref-in-If.result.now)
    (stmts c.deref-in-If-2.result.now) (if_is c.args.stmt.now c.in-If.cond c.in-If.then_arm c.in-If.else_arm c.in-If.is no_more
    ∙ (λ j. decides c.in-If.cond (stmts (sym c.deref-in-If.ensures.value j)) (stmts (sym c.deref-in-If-2.ensures.value j)) no_more)) c.mark_body-middle.result c.mark_body-middle.new.kept
    c.mark_body-middle.ensures.place c.mark_body-middle.ensures.marked _ c.mark_body-in-If.ensures.place

pub mark_stmt-returns-in-If-clause-marked : goal.mark_stmt-returns-in-If-clause-marked
mark_stmt-returns-in-If-clause-marked t c = if_marked c.args.numbers.now c.args.place c.args.stmt.now c.args.kept.now c.in-If.cond (stmts c.deref-in-If.result.now)
    (stmts c.deref-in-If-2.result.now) (if_is c.args.stmt.now c.in-If.cond c.in-If.then_arm c.in-If.else_arm c.in-If.is no_more
    ∙ (λ j. decides c.in-If.cond (stmts (sym c.deref-in-If.ensures.value j)) (stmts (sym c.deref-in-If-2.ensures.value j)) no_more)) c.mark_body-middle.result c.mark_body-middle.new.kept
    c.mark_body-middle.ensures.place c.mark_body-middle.ensures.marked _ c.mark_body-in-If.ensures.marked

pub mark_stmt-returns-in_default : goal.mark_stmt-returns-in_default
mark_stmt-returns-in_default t c =
    let r = none_marked c.args.numbers.now c.args.place c.args.stmt.now c.args.kept.now c.in_default.not-Call c.in_default.not-Block c.in_default.not-Loop c.in_default.not-If in
    record { place = r.0; marked = r.1 }
