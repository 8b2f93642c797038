use Rattle.std.proofs.Common.{rules, arith, ap, sym, ◌∙◌}
use Rattle.wa_types.specs.Syntax.{a_block, a_loop}
use Rattle.run_theory.specs.Flat.{no_more, nests, decides}
use Rattle.run_theory.specs.FlatView.{stmts}
use Rattle.wa_model.specs.declared.flat.Stmt.{the_lemmas}
use Rattle.flow_rewrite.specs.Numbering.{gets_number}
use Rattle.flow_rewrite.proofs.NumberingLemmas.{room_at, numbers_next, numbers_end, call_place, call_items, nest_room, nest_done, if_room, else_room, if_done, none_place, none_items}
use Rattle.flow_rewrite.proofs.StmtLemmas.{block_is, loop_is, if_is}
use Rattle.flow_rewrite.proofs.numbering.+number.Goals as goal

pub put_numbers-put_stmt_numbers-requires : goal.put_numbers-put_stmt_numbers-requires
put_numbers-put_stmt_numbers-requires t c = (
  search (rules, the_lemmas),
  room_at c.loop-stmt.next _ c.args.body.now c.loop-stmt.stmt-index c.stmt-item.result (omega (arith, c.loop-stmt-test.true)) c.stmt-item.is c.loop-stmt.invariant.1 c.requires,
)

pub put_numbers-loop-stmt-preserved : goal.put_numbers-loop-stmt-preserved
put_numbers-loop-stmt-preserved t c = numbers_next (gets_number c.args.which.now c.args.listed.now c.args.ignore_indirect) c.loop-stmt.out.items c.put_stmt_numbers.new.out.items _
    c.loop-stmt.next c.in_ok-next.next _ c.args.body.now c.loop-stmt.stmt-index c.stmt-item.result
    (omega (arith, c.loop-stmt-test.true)) c.stmt-item.is c.loop-stmt.invariant.0 c.loop-stmt.invariant.1 c.in_ok-next.ensures.place c.in_ok-next.ensures.items

pub put_numbers-returns-clause-place : goal.put_numbers-returns-clause-place
put_numbers-returns-clause-place t c = (numbers_end (gets_number c.args.which.now c.args.listed.now c.args.ignore_indirect) c.loop-stmt.out.items _ c.loop-stmt.next _ c.args.body.now
    c.loop-stmt.stmt-index (omega (arith, c.loop-stmt-test.false)) c.loop-stmt.invariant.0 c.loop-stmt.invariant.1).0

pub put_numbers-returns-clause-items : goal.put_numbers-returns-clause-items
put_numbers-returns-clause-items t c = (numbers_end (gets_number c.args.which.now c.args.listed.now c.args.ignore_indirect) c.loop-stmt.out.items _ c.loop-stmt.next _ c.args.body.now
    c.loop-stmt.stmt-index (omega (arith, c.loop-stmt-test.false)) c.loop-stmt.invariant.0 c.loop-stmt.invariant.1).1

pub put_stmt_numbers-overflow_add-result : goal.put_stmt_numbers-overflow_add-result
put_stmt_numbers-overflow_add-result t c = let q = call_place c.args.place c.args.stmt.now c.in-Call.op c.in-Call.stack c.in-Call.args c.in-Call.to c.in-Call.is in omega (arith, q, c.requires)

pub put_stmt_numbers-returns-in_ok-put_place-in-Call-clause-place : goal.put_stmt_numbers-returns-in_ok-put_place-in-Call-clause-place
put_stmt_numbers-returns-in_ok-put_place-in-Call-clause-place t c = call_place c.args.place c.args.stmt.now c.in-Call.op c.in-Call.stack c.in-Call.args c.in-Call.to c.in-Call.is

pub put_stmt_numbers-returns-in_ok-put_place-in-Call-clause-items : goal.put_stmt_numbers-returns-in_ok-put_place-in-Call-clause-items
put_stmt_numbers-returns-in_ok-put_place-in-Call-clause-items t c = call_items
    (gets_number c.args.which.now c.args.listed.now c.args.ignore_indirect) c.args.out.now.items c.put_place.new.out.items c.args.place c.gets_number.result c.args.stmt.now c.in-Call.op
    c.in-Call.stack c.in-Call.args c.in-Call.to c.in-Call.is c.gets_number.ensures c.in_ok-put_place-in-Call.ensures

pub put_stmt_numbers-put_numbers-requires : goal.put_stmt_numbers-put_numbers-requires
put_stmt_numbers-put_numbers-requires t c = (
  search (rules, the_lemmas),
  nest_room c.args.place c.args.stmt.now a_block (stmts c.deref.result.now)
      (block_is c.args.stmt.now c.in-Block.body c.in-Block.is no_more ∙ ap (λ xs. nests a_block (stmts xs) no_more) (sym c.deref.ensures.value)) c.requires,
)

pub put_stmt_numbers-returns-in_ok-next-in-Block-clause-place : goal.put_stmt_numbers-returns-in_ok-next-in-Block-clause-place
put_stmt_numbers-returns-in_ok-next-in-Block-clause-place t c = (nest_done (gets_number c.args.which.now c.args.listed.now c.args.ignore_indirect) c.args.out.now.items
    c.put_numbers.new.out.items c.args.place _ c.args.stmt.now a_block (stmts c.deref.result.now)
    (block_is c.args.stmt.now c.in-Block.body c.in-Block.is no_more ∙ ap (λ xs. nests a_block (stmts xs) no_more) (sym c.deref.ensures.value)) c.in_ok-next-in-Block.ensures.place
    c.in_ok-next-in-Block.ensures.items).0

pub put_stmt_numbers-returns-in_ok-next-in-Block-clause-items : goal.put_stmt_numbers-returns-in_ok-next-in-Block-clause-items
put_stmt_numbers-returns-in_ok-next-in-Block-clause-items t c = (nest_done (gets_number c.args.which.now c.args.listed.now c.args.ignore_indirect) c.args.out.now.items
    c.put_numbers.new.out.items c.args.place _ c.args.stmt.now a_block (stmts c.deref.result.now)
    (block_is c.args.stmt.now c.in-Block.body c.in-Block.is no_more ∙ ap (λ xs. nests a_block (stmts xs) no_more) (sym c.deref.ensures.value)) c.in_ok-next-in-Block.ensures.place
    c.in_ok-next-in-Block.ensures.items).1

pub put_stmt_numbers-put_numbers-requires-in-Loop : goal.put_stmt_numbers-put_numbers-requires-in-Loop
put_stmt_numbers-put_numbers-requires-in-Loop t c = (
  search (rules, the_lemmas),
  nest_room c.args.place c.args.stmt.now a_loop (stmts c.deref-in-Loop.result.now)
      (loop_is c.args.stmt.now c.in-Loop.body c.in-Loop.is no_more ∙ ap (λ xs. nests a_loop (stmts xs) no_more) (sym c.deref-in-Loop.ensures.value)) c.requires,
)

pub put_stmt_numbers-returns-in_ok-next-in-Loop-clause-place : goal.put_stmt_numbers-returns-in_ok-next-in-Loop-clause-place
put_stmt_numbers-returns-in_ok-next-in-Loop-clause-place t c = (nest_done (gets_number c.args.which.now c.args.listed.now c.args.ignore_indirect) c.args.out.now.items
    c.put_numbers-in-Loop.new.out.items c.args.place _ c.args.stmt.now a_loop (stmts c.deref-in-Loop.result.now)
    (loop_is c.args.stmt.now c.in-Loop.body c.in-Loop.is no_more ∙ ap (λ xs. nests a_loop (stmts xs) no_more) (sym c.deref-in-Loop.ensures.value)) c.in_ok-next-in-Loop.ensures.place
    c.in_ok-next-in-Loop.ensures.items).0

pub put_stmt_numbers-returns-in_ok-next-in-Loop-clause-items : goal.put_stmt_numbers-returns-in_ok-next-in-Loop-clause-items
put_stmt_numbers-returns-in_ok-next-in-Loop-clause-items t c = (nest_done (gets_number c.args.which.now c.args.listed.now c.args.ignore_indirect) c.args.out.now.items
    c.put_numbers-in-Loop.new.out.items c.args.place _ c.args.stmt.now a_loop (stmts c.deref-in-Loop.result.now)
    (loop_is c.args.stmt.now c.in-Loop.body c.in-Loop.is no_more ∙ ap (λ xs. nests a_loop (stmts xs) no_more) (sym c.deref-in-Loop.ensures.value)) c.in_ok-next-in-Loop.ensures.place
    c.in_ok-next-in-Loop.ensures.items).1

pub put_stmt_numbers-put_numbers-requires-in-If : goal.put_stmt_numbers-put_numbers-requires-in-If
put_stmt_numbers-put_numbers-requires-in-If t c = (
  search (rules, the_lemmas),
  if_room c.args.place c.args.stmt.now c.in-If.cond (stmts c.deref-in-If.result.now)
      (stmts c.in-If.else_arm.items) (if_is c.args.stmt.now c.in-If.cond c.in-If.then_arm c.in-If.else_arm c.in-If.is no_more
      ∙ ap (λ xs. decides c.in-If.cond (stmts xs) (stmts c.in-If.else_arm.items) no_more) (sym c.deref-in-If.ensures.value)) c.requires,
)

pub put_stmt_numbers-put_numbers-requires-in-If-2 : goal.put_stmt_numbers-put_numbers-requires-in-If-2
put_stmt_numbers-put_numbers-requires-in-If-2 t c = (
  search (rules, the_lemmas),
  else_room c.args.place c.in_ok-middle-in-If.middle c.args.stmt.now c.in-If.cond
      (stmts c.deref-in-If.result.now) (stmts c.deref-in-If-2.result.now)
      (if_is c.args.stmt.now c.in-If.cond c.in-If.then_arm c.in-If.else_arm c.in-If.is no_more
      ∙ (λ j. decides c.in-If.cond (stmts (sym c.deref-in-If.ensures.value j)) (stmts (sym c.deref-in-If-2.ensures.value j)) no_more)) c.requires c.in_ok-middle-in-If.ensures.place,
)

pub put_stmt_numbers-returns-in_ok-next-in-If-clause-place : goal.put_stmt_numbers-returns-in_ok-next-in-If-clause-place
put_stmt_numbers-returns-in_ok-next-in-If-clause-place t c = (if_done (gets_number c.args.which.now c.args.listed.now c.args.ignore_indirect) c.args.out.now.items
    c.put_numbers-in-If.new.out.items c.put_numbers-in-If-2.new.out.items c.args.place c.in_ok-middle-in-If.middle _ c.args.stmt.now c.in-If.cond (stmts c.deref-in-If.result.now)
    (stmts c.deref-in-If-2.result.now) (if_is c.args.stmt.now c.in-If.cond c.in-If.then_arm c.in-If.else_arm c.in-If.is no_more
    ∙ (λ j. decides c.in-If.cond (stmts (sym c.deref-in-If.ensures.value j)) (stmts (sym c.deref-in-If-2.ensures.value j)) no_more)) c.in_ok-middle-in-If.ensures.place
    c.in_ok-next-in-If.ensures.place c.in_ok-middle-in-If.ensures.items c.in_ok-next-in-If.ensures.items).0

pub put_stmt_numbers-returns-in_ok-next-in-If-clause-items : goal.put_stmt_numbers-returns-in_ok-next-in-If-clause-items
put_stmt_numbers-returns-in_ok-next-in-If-clause-items t c = (if_done (gets_number c.args.which.now c.args.listed.now c.args.ignore_indirect) c.args.out.now.items
    c.put_numbers-in-If.new.out.items c.put_numbers-in-If-2.new.out.items c.args.place c.in_ok-middle-in-If.middle _ c.args.stmt.now c.in-If.cond (stmts c.deref-in-If.result.now)
    (stmts c.deref-in-If-2.result.now) (if_is c.args.stmt.now c.in-If.cond c.in-If.then_arm c.in-If.else_arm c.in-If.is no_more
    ∙ (λ j. decides c.in-If.cond (stmts (sym c.deref-in-If.ensures.value j)) (stmts (sym c.deref-in-If-2.ensures.value j)) no_more)) c.in_ok-middle-in-If.ensures.place
    c.in_ok-next-in-If.ensures.place c.in_ok-middle-in-If.ensures.items c.in_ok-next-in-If.ensures.items).1

pub put_stmt_numbers-returns-in_default : goal.put_stmt_numbers-returns-in_default
put_stmt_numbers-returns-in_default t c = record {
  place = none_place c.args.place c.args.stmt.now c.in_default.not-Call c.in_default.not-Block c.in_default.not-Loop c.in_default.not-If;
  items = none_items (gets_number c.args.which.now c.args.listed.now c.args.ignore_indirect) c.args.out.now.items c.args.place c.args.stmt.now c.in_default.not-Call
      c.in_default.not-Block c.in_default.not-Loop c.in_default.not-If;
}
