use Rattle.std.proofs.Common.{rules, arith, [], drop, ◌∷◌, ◌++◌, ◌-◌, ap, length, refl, reverse, subst, sym, true, ◌∙◌}
use Rattle.wa_types.specs.Syntax.{a_block, a_loop, done}
use Rattle.run_theory.specs.Flat.{no_more, nests, decides, code_of, last_of, slots_got}
use Rattle.run_theory.specs.FlatView.{stmt_in_front, stmts}
use Rattle.wa_model.specs.declared.flat.Stmt.{the_lemmas}
use Rattle.flow_rewrite.proofs.StmtLemmas.{block_is, loop_is, if_is, call_is}
use Rattle.live_locals.specs.Keeping.{Stands}
use Rattle.live_locals.specs.Rows.{StandsAt}
use Rattle.live_locals.specs.Sets.{told_by, TellsAnywhere, TellsBefore}
use Rattle.live_locals.proofs.SetLemmas.{put_back}
use Rattle.live_locals.proofs.StepLemmas.{call_arm}
use Rattle.live_locals.proofs.PassLemmas.{passed_first, passed_before, holds_none, block_passed, if_passed}
use Rattle.live_locals.specs.Heads.{loop_total}
use Rattle.live_locals.proofs.WordPasses.{no_loops}
use Rattle.live_locals.specs.Nests.{Nest}
use Rattle.live_locals.proofs.NestLemmas.{nest_stmt, nest_block, nest_else, nest_then, nest_as, left_first, left_before, left_end, left_as, left_two, loops_of, loops_in_block, loops_in_loop, loops_in_if, loop_passed_by}
use Rattle.live_locals.proofs.RowLemmas.{rows_first, rows_before, countable_before, stands_before, stands_settled, call_room, call_number, call_rows, block_rows, loop_rows, if_rows, nest_countable, else_countable, then_countable, simple_rows}
use Rattle.live_locals.proofs.rows.+rows.Goals as goal

pub put_body_rows-loop-left-init : goal.put_body_rows-loop-left-init
put_body_rows-loop-left-init t c = (
  omega arith,
  passed_first c.args.walk.now.tos.items c.args.set.now c.args.body.now,
  rows_first c.args.calls.numbers.now c.args.walk.now.tos.items c.args.set.now c.args.body.now c.args.calls.last c.args.keeping.now c.requires.there,
  left_first c.args.body.now (reverse c.args.walk.now.heads.items),
)

pub put_body_rows-put_stmt_rows-requires : goal.put_body_rows-put_stmt_rows-requires
put_body_rows-put_stmt_rows-requires t c = (
  search (rules, the_lemmas),
  (
    countable_before c.args.calls.numbers.now c.args.walk.now.tos.items c.args.set.now c.loop-left.set c.args.body.now c.loop-left.left c.index-body-left.result c.args.calls.last c.loop-left.first
        c.args.keeping.now c.loop-left.keeping
        (omega (arith, c.loop-left-test.true)) c.loop-left.invariant.0 c.index-body-left.is c.requires.calls c.loop-left.invariant.2,
    (
      nest_stmt c.args.around.level c.args.around.reach.now c.args.walk.now.tos.items c.loop-left.walk.tos.items c.args.set.now c.loop-left.set c.args.body.now c.loop-left.left c.index-body-left.result
          (omega (arith, c.loop-left-test.true)) c.loop-left.invariant.0 c.index-body-left.is c.loop-left.invariant.1 (reverse c.args.walk.now.heads.items) (reverse c.loop-left.walk.heads.items)
          c.loop-left.invariant.3 c.requires.nest,
      stands_before c.args.calls.numbers.now c.args.walk.now.tos.items c.loop-left.walk.tos.items c.args.set.now c.loop-left.set (stmts (drop c.loop-left.left c.args.body.now)) c.args.calls.last
          c.loop-left.first c.args.keeping.now c.loop-left.keeping (code_of (stmts (drop c.loop-left.left c.args.body.now))) c.loop-left.invariant.1 c.loop-left.invariant.2,
    ),
  ),
)

pub put_body_rows-loop-left-preserved : goal.put_body_rows-loop-left-preserved
put_body_rows-loop-left-preserved t c = (
  omega (arith, c.loop-left.invariant.0),
  passed_before c.args.walk.now.tos.items c.loop-left.walk.tos.items c.put_stmt_rows.new.walk.tos.items c.args.set.now c.loop-left.set c.put_stmt_rows.new.set c.args.body.now c.loop-left.left
      c.index-body-left.result
      (omega (arith, c.loop-left-test.true)) c.loop-left.invariant.0 c.index-body-left.is c.loop-left.invariant.1 c.in_ok-first.ensures.passed,
  rows_before c.args.calls.numbers.now c.args.walk.now.tos.items c.loop-left.walk.tos.items c.args.set.now c.loop-left.set c.put_stmt_rows.new.set c.args.body.now c.loop-left.left
      c.index-body-left.result c.args.calls.last
      c.loop-left.first c.in_ok-first.first
      c.args.keeping.now c.loop-left.keeping c.put_stmt_rows.new.keeping (omega (arith, c.loop-left-test.true)) c.loop-left.invariant.0 c.index-body-left.is c.loop-left.invariant.1
      c.loop-left.invariant.2
      c.in_ok-first.ensures.rows,
  left_before c.args.body.now c.loop-left.left c.index-body-left.result (reverse c.args.walk.now.heads.items) (reverse c.loop-left.walk.heads.items) (reverse c.put_stmt_rows.new.walk.heads.items)
      (omega (arith, c.loop-left-test.true)) c.loop-left.invariant.0 c.index-body-left.is c.loop-left.invariant.3 c.in_ok-first.ensures.heads,
)

pub put_body_rows-returns-clause-heads : goal.put_body_rows-returns-clause-heads
put_body_rows-returns-clause-heads t c = left_end c.args.body.now c.loop-left.left (reverse c.args.walk.now.heads.items) (reverse c.loop-left.walk.heads.items) (omega (arith, c.loop-left-test.false))
    c.loop-left.invariant.3

pub put_stmt_rows-overflow_sub-place : goal.put_stmt_rows-overflow_sub-place
put_stmt_rows-overflow_sub-place t c = call_room c.args.calls.numbers.now c.args.stmt.now c.in-Call.op c.in-Call.stack c.in-Call.args c.in-Call.to c.args.calls.last c.in-Call.is c.requires.calls

pub put_stmt_rows-put_call-requires : goal.put_stmt_rows-put_call-requires
put_stmt_rows-put_call-requires t c =
    let n = (c.write_told.ensures (told_by c.args.walk.now.tos.items)).size in record {
      rises = c.requires.calls.rises;
      stands = subst (λ k. Stands k c.settle_told.new.keeping) (sym n) c.in_ok-settle_told-in-Call.ensures.stands;
      left = call_number c.args.calls.numbers.now c.args.calls.last (c.args.calls.last - 1) c.args.set.now c.in-Call.to c.args.keeping.now c.settle_told.new.keeping
          (call_room c.args.calls.numbers.now c.args.stmt.now c.in-Call.op c.in-Call.stack c.in-Call.args c.in-Call.to c.args.calls.last c.in-Call.is c.requires.calls) refl c.requires.there
          c.in_ok-settle_told-in-Call.ensures;
    }

pub put_stmt_rows-put_body_rows-requires : goal.put_stmt_rows-put_body_rows-requires
put_stmt_rows-put_body_rows-requires t c = (
  search (rules, the_lemmas),
  (
    nest_countable c.args.calls.numbers.now c.args.stmt.now c.args.walk.now.tos.items a_block (stmts c.deref-in-Block.result.now) c.args.calls.last
        (block_is c.args.stmt.now c.in-Block.body c.in-Block.is no_more ∙ ap (λ xs. nests a_block (stmts xs) no_more) (sym c.deref-in-Block.ensures.value)) c.requires.calls,
    (
      nest_block c.args.around.level c.args.around.reach.now c.args.stmt.now c.args.walk.now.tos.items c.in_ok-copied-in-Block.field-0 c.push.new.self.items c.args.set.now c.in_ok-copied-in-Block.ensures
          c.in_ok-push-in-Block.ensures.items (stmts c.deref-in-Block.result.now)
          (block_is c.args.stmt.now c.in-Block.body c.in-Block.is no_more ∙ ap (λ xs. nests a_block (stmts xs) no_more) (sym c.deref-in-Block.ensures.value))
          (reverse c.args.walk.now.heads.items) c.requires.nest,
      c.requires.there,
    ),
  ),
)

pub put_stmt_rows-enter_loop-requires : goal.put_stmt_rows-enter_loop-requires
put_stmt_rows-enter_loop-requires t c = record {
  ops = c.requires.calls.ops;
  is_loop = (loop_is c.args.stmt.now c.in-Loop.body c.in-Loop.is no_more ∙ ap (λ xs. nests a_loop (stmts xs) no_more) (sym c.deref-in-Loop.ensures.value));
  nest = subst (Nest c.args.around.level c.args.around.reach.now c.args.walk.now.tos.items c.args.set.now (reverse c.args.walk.now.heads.items))
      (loop_is c.args.stmt.now c.in-Loop.body c.in-Loop.is no_more ∙ ap (λ xs. nests a_loop (stmts xs) no_more) (sym c.deref-in-Loop.ensures.value)) c.requires.nest;
}

pub put_stmt_rows-put_body_rows-requires-in-Loop : goal.put_stmt_rows-put_body_rows-requires-in-Loop
put_stmt_rows-put_body_rows-requires-in-Loop t c = (
  search (rules, the_lemmas),
  (
    nest_countable c.args.calls.numbers.now c.args.stmt.now c.args.walk.now.tos.items a_loop (stmts c.deref-in-Loop-3.result.now) c.args.calls.last
        (loop_is c.args.stmt.now c.in-Loop.body c.in-Loop.is no_more ∙ ap (λ xs. nests a_loop (stmts xs) no_more) (sym c.deref-in-Loop-3.ensures.value)) c.requires.calls,
    (
      subst (λ xs. Nest c.in_ok-inside-in-Loop.inside.level c.deref-in-Loop-2.result.now c.push-in-Loop.new.self.items c.deref_mut.result.now (reverse c.enter_loop.new.walk.heads.items) (stmts xs))
          (c.deref-in-Loop.ensures.value ∙ sym c.deref-in-Loop-3.ensures.value)
          (nest_as c.in_ok-inside-in-Loop.inside.level c.in_ok-inside-in-Loop.inside.reach.items c.deref-in-Loop-2.result.now (c.args.walk.now.tos.items ++ c.in_ok-head-in-Loop.head ∷ [])
          c.push-in-Loop.new.self.items c.args.set.now c.deref_mut.result.now (reverse c.enter_loop.new.walk.heads.items) (stmts c.deref-in-Loop.result.now) c.deref-in-Loop-2.ensures.value
          (c.in_ok-push-in-Loop.ensures.items ∙ ap (λ ts. ts ++ c.in_ok-head-in-Loop.head ∷ []) c.in_ok-inside-in-Loop.ensures.passed.labels) (c.deref_mut.ensures.value ∙ c.in_ok-inner-in-Loop.ensures)
          (c.in_ok-inside-in-Loop.ensures.inside c.in_ok-head-in-Loop.head c.in_ok-head-in-Loop.ensures)),
      subst (λ z. StandsAt c.args.calls.numbers.now c.args.calls.last (length z) c.args.keeping.now) (sym (c.deref_mut.ensures.value ∙ c.in_ok-inner-in-Loop.ensures)) c.requires.there,
    ),
  ),
)

pub put_stmt_rows-put_body_rows-requires-in-If : goal.put_stmt_rows-put_body_rows-requires-in-If
put_stmt_rows-put_body_rows-requires-in-If t c = (
  search (rules, the_lemmas),
  (
    else_countable c.args.calls.numbers.now c.args.stmt.now c.args.walk.now.tos.items c.in-If.cond (stmts c.in-If.then_arm.items) (stmts c.deref-in-If.result.now) c.args.calls.last
        (if_is c.args.stmt.now c.in-If.cond c.in-If.then_arm c.in-If.else_arm c.in-If.is no_more
        ∙ ap (λ xs. decides c.in-If.cond (stmts c.in-If.then_arm.items) (stmts xs) no_more) (sym c.deref-in-If.ensures.value)) c.requires.calls,
    (
      nest_else c.args.around.level c.args.around.reach.now c.args.stmt.now c.args.walk.now.tos.items c.in_ok-copied-in-If.field-0 c.push-in-If.new.self.items c.args.set.now c.in_ok-copied-in-If.ensures
          c.in_ok-push-in-If.ensures.items c.in-If.cond (stmts c.in-If.then_arm.items) (stmts c.deref-in-If.result.now)
          (if_is c.args.stmt.now c.in-If.cond c.in-If.then_arm c.in-If.else_arm c.in-If.is no_more
          ∙ ap (λ xs. decides c.in-If.cond (stmts c.in-If.then_arm.items) (stmts xs) no_more) (sym c.deref-in-If.ensures.value)) (reverse c.args.walk.now.heads.items) c.requires.nest,
      c.requires.there,
    ),
  ),
)

pub put_stmt_rows-put_body_rows-requires-in-If-2 : goal.put_stmt_rows-put_body_rows-requires-in-If-2
put_stmt_rows-put_body_rows-requires-in-If-2 t c = (
  search (rules, the_lemmas),
  (
    then_countable c.args.calls.numbers.now c.args.stmt.now c.args.walk.now.tos.items c.in-If.cond (stmts c.deref-in-If-2.result.now) (stmts c.deref-in-If.result.now) c.args.calls.last c.in_ok-middle-in-If.middle
        (if_is c.args.stmt.now c.in-If.cond c.in-If.then_arm c.in-If.else_arm c.in-If.is no_more
        ∙ (λ j. decides c.in-If.cond (stmts (sym c.deref-in-If-2.ensures.value j)) (stmts (sym c.deref-in-If.ensures.value j)) no_more)) c.in_ok-middle-in-If.ensures.rows.told.places c.requires.calls,
    (
      nest_then c.args.around.level c.args.around.reach.now c.args.stmt.now c.args.walk.now.tos.items c.in_ok-copied-in-If.field-0 c.push-in-If.new.self.items c.args.set.now c.in_ok-copied-in-If.ensures
          c.in_ok-push-in-If.ensures.items c.in-If.cond (stmts c.deref-in-If-2.result.now) (stmts c.deref-in-If.result.now)
          (if_is c.args.stmt.now c.in-If.cond c.in-If.then_arm c.in-If.else_arm c.in-If.is no_more
          ∙ (λ j. decides c.in-If.cond (stmts (sym c.deref-in-If-2.ensures.value j)) (stmts (sym c.deref-in-If.ensures.value j)) no_more))
          (reverse c.args.walk.now.heads.items) c.requires.nest c.put_body_rows-in-If.new.walk.tos.items c.deref_mut-in-If.result.now (reverse c.put_body_rows-in-If.new.walk.heads.items)
          c.in_ok-middle-in-If.ensures.passed.labels (c.deref_mut-in-If.ensures.value ∙ c.in_ok-other-in-If.ensures) c.in_ok-middle-in-If.ensures.heads,
      subst (λ z. StandsAt c.args.calls.numbers.now c.in_ok-middle-in-If.middle (length z) c.settle_all-in-If.new.keeping) (sym (c.deref_mut-in-If.ensures.value ∙ c.in_ok-other-in-If.ensures))
          (stands_settled c.args.calls.numbers.now c.in_ok-middle-in-If.middle (length c.args.set.now) (length c.args.set.now) c.put_body_rows-in-If.new.set (λ x. true)
          c.put_body_rows-in-If.new.keeping c.settle_all-in-If.new.keeping c.in_ok-middle-in-If.ensures.passed.tells.size c.in_ok-middle-in-If.ensures.rows.there
          c.in_ok-settle_all-in-If.ensures),
    ),
  ),
)

pub put_stmt_rows-settle_all-requires : goal.put_stmt_rows-settle_all-requires
put_stmt_rows-settle_all-requires t c =
    let inner_long = c.in_ok-first-in-Loop.ensures.passed.tells.size in
    let back = c.deref-in-Loop-4.ensures.value ∙ put_back c.put_body_rows-in-Loop.new.set c.in_ok-inner-in-Loop.inner.items c.in_ok-inner-in-Loop.inner.len (inner_long ∙ ap length c.deref_mut.ensures.value)
    (sym c.in_ok-inner-in-Loop.inner.ok.0) in
    subst (λ k. Stands k c.put_body_rows-in-Loop.new.keeping) (sym (ap length back ∙ inner_long)) c.in_ok-first-in-Loop.ensures.rows.there.stands

pub put_stmt_rows-settle_all-requires-in-If : goal.put_stmt_rows-settle_all-requires-in-If
put_stmt_rows-settle_all-requires-in-If t c =
    subst (λ k. Stands k c.put_body_rows-in-If.new.keeping) (sym c.in_ok-middle-in-If.ensures.passed.tells.size) c.in_ok-middle-in-If.ensures.rows.there.stands

pub put_stmt_rows-settle_all-requires-in-If-2 : goal.put_stmt_rows-settle_all-requires-in-If-2
put_stmt_rows-settle_all-requires-in-If-2 t c =
    let long = c.in_ok-first-in-If.ensures.passed.tells.size in
    let back = c.deref-in-If-3.ensures.value ∙ put_back c.put_body_rows-in-If-2.new.set c.in_ok-other-in-If.other.items c.in_ok-other-in-If.other.len (long ∙ ap length c.deref_mut-in-If.ensures.value)
    (sym c.in_ok-other-in-If.other.ok.0) in
    subst (λ k. Stands k c.put_body_rows-in-If-2.new.keeping) (sym (ap length back ∙ long)) c.in_ok-first-in-If.ensures.rows.there.stands

pub put_stmt_rows-settle_touched-requires : goal.put_stmt_rows-settle_touched-requires
put_stmt_rows-settle_touched-requires t c = c.requires.there.stands

pub put_stmt_rows-settle_told-requires : goal.put_stmt_rows-settle_told-requires
put_stmt_rows-settle_told-requires t c = c.requires.there.stands

pub put_stmt_rows-pass_simple-requires : goal.put_stmt_rows-pass_simple-requires
put_stmt_rows-pass_simple-requires t c = record { ops = c.requires.calls.ops; simple = holds_none c.args.stmt.now c.in_default.not-Block c.in_default.not-Loop c.in_default.not-If }

pub put_stmt_rows-returns-in_ok-put_call-in-Call-clause-passed : goal.put_stmt_rows-returns-in_ok-put_call-in-Call-clause-passed
put_stmt_rows-returns-in_ok-put_call-in-Call-clause-passed t c = record {
  labels = refl;
  tells = call_arm (told_by c.args.walk.now.tos.items) c.args.stmt.now c.in-Call.op c.in-Call.stack c.in-Call.args c.in-Call.to c.deref-in-Call.result.now c.args.set.now c.write_told.new.set
      c.read_taken.new.set c.in-Call.is
      c.deref-in-Call.ensures.value c.requires.calls.ops c.write_told.ensures c.read_taken.ensures;
}

pub put_stmt_rows-returns-in_ok-put_call-in-Call-clause-rows : goal.put_stmt_rows-returns-in_ok-put_call-in-Call-clause-rows
put_stmt_rows-returns-in_ok-put_call-in-Call-clause-rows t c = call_rows c.args.calls.numbers.now c.args.walk.now.tos.items c.args.stmt.now c.in-Call.op c.in-Call.stack c.in-Call.args c.in-Call.to
    c.deref.result.now
    c.args.set.now c.write_told.new.set c.read_taken.new.set c.args.calls.last c.args.keeping.now c.settle_told.new.keeping c.put_call.new.keeping c.in-Call.is c.deref.ensures.value
    c.requires.calls.room c.requires.there c.in_ok-settle_told-in-Call.ensures c.write_told.ensures c.in_ok-put_call-in-Call.ensures
    (subst (λ xs. TellsAnywhere c.write_told.new.set c.read_taken.new.set (slots_got (last_of c.in-Call.args xs) done)) (c.deref-in-Call.ensures.value ∙ sym c.deref.ensures.value) c.read_taken.ensures)

pub put_stmt_rows-returns-in_ok-put_call-in-Call-clause-heads : goal.put_stmt_rows-returns-in_ok-put_call-in-Call-clause-heads
put_stmt_rows-returns-in_ok-put_call-in-Call-clause-heads t c = left_as 0 (loop_total (stmt_in_front c.args.stmt.now no_more)) (reverse c.args.walk.now.heads.items) (reverse c.args.walk.now.heads.items)
    (loops_of c.args.stmt.now _ (call_is c.args.stmt.now c.in-Call.op c.in-Call.stack c.in-Call.args c.in-Call.to c.in-Call.is no_more)) refl

pub put_stmt_rows-returns-in_ok-first-in-Block-clause-passed : goal.put_stmt_rows-returns-in_ok-first-in-Block-clause-passed
put_stmt_rows-returns-in_ok-first-in-Block-clause-passed t c = block_passed c.args.stmt.now c.args.walk.now.tos.items
    (stmts c.deref-in-Block.result.now) c.in_ok-copied-in-Block.field-0 c.put_body_rows.new.walk.tos
    c.push.new.self.items c.pop.new.self.items c.args.set.now c.put_body_rows.new.set (block_is c.args.stmt.now c.in-Block.body c.in-Block.is no_more
    ∙ ap (λ xs. nests a_block (stmts xs) no_more) (sym c.deref-in-Block.ensures.value))
    c.in_ok-copied-in-Block.ensures c.in_ok-push-in-Block.ensures.items c.in_ok-first-in-Block.ensures.passed c.pop.ensures.rest

pub put_stmt_rows-returns-in_ok-first-in-Block-clause-rows : goal.put_stmt_rows-returns-in_ok-first-in-Block-clause-rows
put_stmt_rows-returns-in_ok-first-in-Block-clause-rows t c = block_rows c.args.calls.numbers.now c.args.stmt.now c.args.walk.now.tos.items
    (stmts c.deref-in-Block.result.now) c.in_ok-copied-in-Block.field-0 c.push.new.self.items
    c.args.set.now c.put_body_rows.new.set c.args.calls.last c.in_ok-first-in-Block.first c.args.keeping.now c.put_body_rows.new.keeping (block_is c.args.stmt.now c.in-Block.body c.in-Block.is no_more
    ∙ ap (λ xs. nests a_block (stmts xs) no_more) (sym c.deref-in-Block.ensures.value))
    c.in_ok-copied-in-Block.ensures c.in_ok-push-in-Block.ensures.items c.in_ok-first-in-Block.ensures.rows

pub put_stmt_rows-returns-in_ok-first-in-Block-clause-heads : goal.put_stmt_rows-returns-in_ok-first-in-Block-clause-heads
put_stmt_rows-returns-in_ok-first-in-Block-clause-heads t c = left_as (loop_total (stmts c.deref-in-Block.result.now)) (loop_total (stmt_in_front c.args.stmt.now no_more))
    (reverse c.args.walk.now.heads.items) (reverse c.put_body_rows.new.walk.heads.items) (loops_in_block c.args.stmt.now (stmts c.deref-in-Block.result.now)
    (block_is c.args.stmt.now c.in-Block.body c.in-Block.is no_more ∙ ap (λ xs. nests a_block (stmts xs) no_more) (sym c.deref-in-Block.ensures.value))) c.in_ok-first-in-Block.ensures.heads

pub put_stmt_rows-returns-in_ok-settle_all-in-Loop-clause-passed : goal.put_stmt_rows-returns-in_ok-settle_all-in-Loop-clause-passed
put_stmt_rows-returns-in_ok-settle_all-in-Loop-clause-passed t c = loop_passed_by c.args.stmt.now (stmts c.deref-in-Loop.result.now) c.args.walk.now.tos.items c.enter_loop.new.walk.tos.items
    c.push-in-Loop.new.self.items c.in_ok-head-in-Loop.head c.put_body_rows-in-Loop.new.walk.tos c.pop-in-Loop.new.self.items c.args.set.now c.enter_loop.new.set
    (loop_is c.args.stmt.now c.in-Loop.body c.in-Loop.is no_more ∙ ap (λ xs. nests a_loop (stmts xs) no_more) (sym c.deref-in-Loop.ensures.value))
    c.in_ok-inside-in-Loop.ensures.passed c.in_ok-push-in-Loop.ensures.items c.in_ok-first-in-Loop.ensures.passed.labels c.pop-in-Loop.ensures.rest

pub put_stmt_rows-returns-in_ok-settle_all-in-Loop-clause-rows : goal.put_stmt_rows-returns-in_ok-settle_all-in-Loop-clause-rows
put_stmt_rows-returns-in_ok-settle_all-in-Loop-clause-rows t c = loop_rows c.args.calls.numbers.now c.args.stmt.now c.args.walk.now.tos.items
    (stmts c.deref-in-Loop-3.result.now) c.in_ok-head-in-Loop.head c.push-in-Loop.new.self.items
    c.args.set.now c.deref_mut.result.now c.enter_loop.new.set c.put_body_rows-in-Loop.new.set c.deref-in-Loop-4.result.now c.args.calls.last c.in_ok-first-in-Loop.first c.args.keeping.now
    c.put_body_rows-in-Loop.new.keeping c.settle_all.new.keeping
    (loop_is c.args.stmt.now c.in-Loop.body c.in-Loop.is no_more ∙ ap (λ xs. nests a_loop (stmts xs) no_more) (sym c.deref-in-Loop-3.ensures.value))
    c.in_ok-head-in-Loop.ensures (c.in_ok-push-in-Loop.ensures.items ∙ ap (λ ts. ts ++ c.in_ok-head-in-Loop.head ∷ []) c.in_ok-inside-in-Loop.ensures.passed.labels)
    (c.deref_mut.ensures.value ∙ c.in_ok-inner-in-Loop.ensures)
    (subst (λ s. TellsBefore (told_by c.args.walk.now.tos.items) c.args.set.now c.enter_loop.new.set (code_of s))
    (sym (loop_is c.args.stmt.now c.in-Loop.body c.in-Loop.is no_more ∙ ap (λ xs. nests a_loop (stmts xs) no_more) (sym c.deref-in-Loop.ensures.value)))
    c.in_ok-inside-in-Loop.ensures.passed.tells) c.in_ok-first-in-Loop.ensures.rows c.in_ok-first-in-Loop.ensures.passed.tells.size
    (c.deref-in-Loop-4.ensures.value ∙ put_back c.put_body_rows-in-Loop.new.set c.in_ok-inner-in-Loop.inner.items c.in_ok-inner-in-Loop.inner.len (c.in_ok-first-in-Loop.ensures.passed.tells.size
    ∙ ap length c.deref_mut.ensures.value) (sym c.in_ok-inner-in-Loop.inner.ok.0))
    c.in_ok-settle_all-in-Loop.ensures

pub put_stmt_rows-returns-in_ok-settle_all-in-Loop-clause-heads : goal.put_stmt_rows-returns-in_ok-settle_all-in-Loop-clause-heads
put_stmt_rows-returns-in_ok-settle_all-in-Loop-clause-heads t c = c.in_ok-first-in-Loop.ensures.heads
    ∙ ap (λ xs. drop (loop_total (stmts xs)) (reverse c.enter_loop.new.walk.heads.items)) (c.deref-in-Loop-3.ensures.value ∙ sym c.deref-in-Loop.ensures.value)
    ∙ c.in_ok-inside-in-Loop.ensures.rest ∙ ap (λ n. drop n (reverse c.args.walk.now.heads.items)) (loops_in_loop c.args.stmt.now (stmts c.deref-in-Loop.result.now)
    (loop_is c.args.stmt.now c.in-Loop.body c.in-Loop.is no_more ∙ ap (λ xs. nests a_loop (stmts xs) no_more) (sym c.deref-in-Loop.ensures.value)))

pub put_stmt_rows-returns-in_ok-settle_all-in-If-2-clause-passed : goal.put_stmt_rows-returns-in_ok-settle_all-in-If-2-clause-passed
put_stmt_rows-returns-in_ok-settle_all-in-If-2-clause-passed t c = if_passed c.args.stmt.now c.args.walk.now.tos.items c.in-If.cond (stmts c.deref-in-If-2.result.now)
    (stmts c.deref-in-If.result.now) c.in_ok-copied-in-If.field-0
    c.put_body_rows-in-If.new.walk.tos.items c.put_body_rows-in-If-2.new.walk.tos c.push-in-If.new.self.items c.pop-in-If.new.self.items
    c.args.set.now c.deref_mut-in-If.result.now c.put_body_rows-in-If-2.new.set c.deref-in-If-4.result.now c.put_body_rows-in-If.new.set c.join.new.set c.read_operand.new.set
    (if_is c.args.stmt.now c.in-If.cond c.in-If.then_arm c.in-If.else_arm c.in-If.is no_more
    ∙ (λ j. decides c.in-If.cond (stmts (sym c.deref-in-If-2.ensures.value j)) (stmts (sym c.deref-in-If.ensures.value j)) no_more))
    c.in_ok-copied-in-If.ensures (c.deref_mut-in-If.ensures.value ∙ c.in_ok-other-in-If.ensures)
    (c.deref-in-If-4.ensures.value ∙ put_back c.put_body_rows-in-If-2.new.set c.in_ok-other-in-If.other.items c.in_ok-other-in-If.other.len (c.in_ok-first-in-If.ensures.passed.tells.size
    ∙ ap length c.deref_mut-in-If.ensures.value) (sym c.in_ok-other-in-If.other.ok.0))
    c.in_ok-push-in-If.ensures.items c.in_ok-middle-in-If.ensures.passed c.in_ok-first-in-If.ensures.passed c.pop-in-If.ensures.rest c.join.auto.set c.join.ensures c.read_operand.ensures

pub put_stmt_rows-returns-in_ok-settle_all-in-If-2-clause-rows : goal.put_stmt_rows-returns-in_ok-settle_all-in-If-2-clause-rows
put_stmt_rows-returns-in_ok-settle_all-in-If-2-clause-rows t c = if_rows c.args.calls.numbers.now c.args.stmt.now c.args.walk.now.tos.items c.in-If.cond (stmts c.deref-in-If-2.result.now)
    (stmts c.deref-in-If.result.now) c.in_ok-copied-in-If.field-0
    c.push-in-If.new.self.items c.put_body_rows-in-If.new.walk.tos.items c.args.set.now c.deref_mut-in-If.result.now c.put_body_rows-in-If.new.set c.put_body_rows-in-If-2.new.set
    c.put_body_rows-in-If.new.set c.deref-in-If-3.result.now c.read_operand.new.set c.args.calls.last c.in_ok-middle-in-If.middle c.in_ok-first-in-If.first
    c.args.keeping.now c.put_body_rows-in-If.new.keeping c.settle_all-in-If.new.keeping c.put_body_rows-in-If-2.new.keeping c.settle_all-in-If-2.new.keeping
    (if_is c.args.stmt.now c.in-If.cond c.in-If.then_arm c.in-If.else_arm c.in-If.is no_more
    ∙ (λ j. decides c.in-If.cond (stmts (sym c.deref-in-If-2.ensures.value j)) (stmts (sym c.deref-in-If.ensures.value j)) no_more))
    c.in_ok-copied-in-If.ensures c.in_ok-push-in-If.ensures.items c.in_ok-middle-in-If.ensures.passed.labels (c.deref_mut-in-If.ensures.value ∙ c.in_ok-other-in-If.ensures)
    c.in_ok-middle-in-If.ensures.rows c.in_ok-middle-in-If.ensures.passed.tells.size refl c.in_ok-settle_all-in-If.ensures
    c.in_ok-first-in-If.ensures.rows c.in_ok-first-in-If.ensures.passed.tells.size
    (c.deref-in-If-3.ensures.value ∙ put_back c.put_body_rows-in-If-2.new.set c.in_ok-other-in-If.other.items c.in_ok-other-in-If.other.len (c.in_ok-first-in-If.ensures.passed.tells.size
    ∙ ap length c.deref_mut-in-If.ensures.value) (sym c.in_ok-other-in-If.other.ok.0))
    c.in_ok-settle_all-in-If-2.ensures

pub put_stmt_rows-returns-in_ok-settle_all-in-If-2-clause-heads : goal.put_stmt_rows-returns-in_ok-settle_all-in-If-2-clause-heads
put_stmt_rows-returns-in_ok-settle_all-in-If-2-clause-heads t c = left_two (loop_total (stmts c.deref-in-If.result.now)) (loop_total (stmts c.deref-in-If-2.result.now))
    (loop_total (stmt_in_front c.args.stmt.now no_more)) (reverse c.args.walk.now.heads.items) (reverse c.put_body_rows-in-If.new.walk.heads.items) (reverse c.put_body_rows-in-If-2.new.walk.heads.items)
    (loops_in_if c.args.stmt.now c.in-If.cond (stmts c.deref-in-If-2.result.now) (stmts c.deref-in-If.result.now)
    (if_is c.args.stmt.now c.in-If.cond c.in-If.then_arm c.in-If.else_arm c.in-If.is no_more
    ∙ (λ j. decides c.in-If.cond (stmts (sym c.deref-in-If-2.ensures.value j)) (stmts (sym c.deref-in-If.ensures.value j)) no_more)))
    c.in_ok-middle-in-If.ensures.heads c.in_ok-first-in-If.ensures.heads

pub put_stmt_rows-returns-in_ok-settle_touched-in_default : goal.put_stmt_rows-returns-in_ok-settle_touched-in_default
put_stmt_rows-returns-in_ok-settle_touched-in_default t c = record {
  passed = record {
    labels = refl;
    tells = subst (λ ts. TellsBefore (told_by ts) c.args.set.now c.pass_simple.new.set (code_of (stmt_in_front c.args.stmt.now no_more))) c.deref-in_default.ensures.value c.pass_simple.ensures;
  };
  rows = simple_rows c.args.calls.numbers.now c.args.stmt.now c.args.walk.now.tos.items c.args.set.now c.pass_simple.new.set c.args.calls.last c.args.keeping.now c.settle_touched.new.keeping
      c.in_default.not-Call c.in_default.not-Block
      c.in_default.not-Loop c.in_default.not-If c.requires.calls.ops c.requires.there
      (subst (λ ts. TellsBefore (told_by ts) c.args.set.now c.pass_simple.new.set (code_of (stmt_in_front c.args.stmt.now no_more))) c.deref-in_default.ensures.value c.pass_simple.ensures)
      c.in_ok-settle_touched-in_default.ensures;
  heads = left_as 0 (loop_total (stmt_in_front c.args.stmt.now no_more)) (reverse c.args.walk.now.heads.items) (reverse c.args.walk.now.heads.items)
      (sym (no_loops c.args.stmt.now c.in_default.not-Block c.in_default.not-Loop c.in_default.not-If)) refl;
}
