use Rattle.std.proofs.Common.{rules, arith, [], ◌∷◌, ◌++◌, ◌-◌, None, ap, length, refl, subst, sym, ◌∙◌}
use Rattle.std.proofs.lemmas.Result.{on_ok_weaker}
use Rattle.wa_types.specs.Syntax.{a_block, a_loop}
use Rattle.run_theory.specs.Flat.{no_more, nests, decides, code_of}
use Rattle.run_theory.specs.FlatView.{stmt_in_front, stmts}
use Rattle.wa_model.specs.declared.flat.Stmt.{the_lemmas}
use Rattle.flow_rewrite.proofs.StmtLemmas.{block_is, loop_is, if_is}
use Rattle.live_locals.proofs.CodeLemmas.{ops_at}
use Rattle.live_locals.proofs.PassLemmas.{nest_ops, then_ops, else_ops, holds_none}
use Rattle.live_locals.specs.Words.{WordsBefore}
use Rattle.live_locals.specs.Heads.{Fresh, deeper}
use Rattle.live_locals.proofs.WordPasses.{words_first, words_before, fresh_before, heads_before, heads_first, fresh_block, fresh_loop, words_block, heads_block, words_loop, heads_loop, head_there, words_if, heads_if, heads_none, no_loops, own_of, put_as, words_size, put_back_words}
use Rattle.live_locals.proofs.word_passes.+pass.Goals as goal

pub pass_body-loop-left-init : goal.pass_body-loop-left-init
pass_body-loop-left-init t c = (
  omega arith,
  words_first c.args.pass.outer.now c.args.inner.now.items c.args.set.now c.args.body.now,
  heads_first c.args.around.level c.args.pass.outer.now c.args.inner.now.items c.args.set.now c.args.body.now c.args.heads.now.items,
)

pub pass_body-pass_stmt-requires : goal.pass_body-pass_stmt-requires
pass_body-pass_stmt-requires t c = (
  search (rules, the_lemmas),
  (
    ops_at c.args.body.now (c.loop-left.left - 1) c.index-body-left.result (omega (arith, c.loop-left-test.true, c.loop-left.invariant.0)) c.index-body-left.is c.requires.ops,
    fresh_before c.args.pass.outer.now c.args.inner.now.items c.loop-left.inner.items [] c.args.set.now c.loop-left.set [] c.args.body.now c.loop-left.left c.index-body-left.result
        (omega (arith, c.loop-left-test.true)) c.loop-left.invariant.0 c.index-body-left.is c.loop-left.invariant.1 c.args.around.level c.requires.fresh,
  ),
)

pub pass_body-loop-left-preserved : goal.pass_body-loop-left-preserved
pass_body-loop-left-preserved t c = (
  omega (arith, c.loop-left.invariant.0),
  words_before c.args.pass.outer.now c.args.inner.now.items c.loop-left.inner.items c.pass_stmt.new.inner.items c.args.set.now c.loop-left.set c.pass_stmt.new.set c.args.body.now c.loop-left.left
      c.index-body-left.result
      (omega (arith, c.loop-left-test.true)) c.loop-left.invariant.0 c.index-body-left.is c.loop-left.invariant.1 c.in_ok-pass_stmt.ensures.passed,
  heads_before c.args.pass.outer.now c.args.inner.now.items c.loop-left.inner.items c.pass_stmt.new.inner.items c.args.set.now c.loop-left.set c.pass_stmt.new.set c.args.body.now c.loop-left.left
      c.index-body-left.result
      (omega (arith, c.loop-left-test.true)) c.loop-left.invariant.0 c.index-body-left.is c.loop-left.invariant.1 c.args.around.level c.args.heads.now.items c.loop-left.heads.items
      c.pass_stmt.new.heads.items c.loop-left.invariant.2 c.in_ok-pass_stmt.ensures.heads,
)

pub pass_stmt-pass_body-requires : goal.pass_stmt-pass_body-requires
pass_stmt-pass_body-requires t c = (
  search (rules, the_lemmas),
  (
    nest_ops c.args.stmt.now [] a_block (stmts c.deref.result.now)
        (block_is c.args.stmt.now c.in-Block.body c.in-Block.is no_more ∙ ap (λ xs. nests a_block (stmts xs) no_more) (sym c.deref.ensures.value)) c.requires.ops,
    fresh_block c.args.around.level c.args.pass.outer.now c.args.inner.now.items c.push_label.new.inner.items c.in_ok-push_label-in-Block.ensures.0 c.args.set.now c.in_ok-push_label-in-Block.ensures.1
        c.in_ok-push_label-in-Block.ensures.2 c.requires.fresh,
  ),
)

pub pass_stmt-pass_body-requires-in-Loop : goal.pass_stmt-pass_body-requires-in-Loop
pass_stmt-pass_body-requires-in-Loop t c = (
  search (rules, the_lemmas),
  (
    nest_ops c.args.stmt.now [] a_loop (stmts c.deref-in-Loop.result.now)
        (loop_is c.args.stmt.now c.in-Loop.body c.in-Loop.is no_more ∙ ap (λ xs. nests a_loop (stmts xs) no_more) (sym c.deref-in-Loop.ensures.value)) c.requires.ops,
    subst (λ l. Fresh l c.args.pass.outer.now c.push_loop.new.inner.items c.args.set.now) (sym c.inside.ensures)
        (fresh_loop c.args.around.level (length c.args.set.now) c.args.pass.outer.now c.args.inner.now.items c.push_loop.new.inner.items c.in_ok-push_loop-in-Loop.ensures.label.0 c.args.set.now
        (own_of c.args.around.level (length c.args.set.now) (length c.args.set.now) c.in_ok-push_loop-in-Loop.ensures.label.0 refl c.in_ok-push_loop-in-Loop.ensures.label.1) c.in_ok-push_loop-in-Loop.ensures.label.2
        c.requires.fresh),
  ),
)

pub pass_stmt-pass_body-requires-in-If : goal.pass_stmt-pass_body-requires-in-If
pass_stmt-pass_body-requires-in-If t c = (
  search (rules, the_lemmas),
  (
    else_ops c.args.stmt.now [] c.in-If.cond (stmts c.in-If.then_arm.items) (stmts c.deref-in-If.result.now)
        (if_is c.args.stmt.now c.in-If.cond c.in-If.then_arm c.in-If.else_arm c.in-If.is no_more
        ∙ ap (λ xs. decides c.in-If.cond (stmts c.in-If.then_arm.items) (stmts xs) no_more) (sym c.deref-in-If.ensures.value)) c.requires.ops,
    fresh_block c.args.around.level c.args.pass.outer.now c.args.inner.now.items c.push_label-in-If.new.inner.items c.in_ok-push_label-in-If.ensures.0 c.args.set.now c.in_ok-push_label-in-If.ensures.1
        c.in_ok-push_label-in-If.ensures.2 c.requires.fresh,
  ),
)

pub pass_stmt-pass_body-requires-in-If-2 : goal.pass_stmt-pass_body-requires-in-If-2
pass_stmt-pass_body-requires-in-If-2 t c = (
  search (rules, the_lemmas),
  (
    then_ops c.args.stmt.now [] c.in-If.cond (stmts c.deref-in-If-2.result.now) (stmts c.in-If.else_arm.items)
        (if_is c.args.stmt.now c.in-If.cond c.in-If.then_arm c.in-If.else_arm c.in-If.is no_more
        ∙ ap (λ xs. decides c.in-If.cond (stmts xs) (stmts c.in-If.else_arm.items) no_more) (sym c.deref-in-If-2.ensures.value)) c.requires.ops,
    subst (λ u. Fresh c.args.around.level c.args.pass.outer.now c.pass_body-in-If.new.inner.items u) (sym (c.deref_mut.ensures.value ∙ c.in_ok-other-in-If.ensures))
        (subst (λ ts. Fresh c.args.around.level c.args.pass.outer.now ts c.args.set.now) (sym c.in_ok-pass_body-in-If.ensures.passed.labels)
        (fresh_block c.args.around.level c.args.pass.outer.now c.args.inner.now.items c.push_label-in-If.new.inner.items c.in_ok-push_label-in-If.ensures.0 c.args.set.now c.in_ok-push_label-in-If.ensures.1
        c.in_ok-push_label-in-If.ensures.2 c.requires.fresh)),
  ),
)

pub pass_stmt-pass_simple-requires : goal.pass_stmt-pass_simple-requires
pass_stmt-pass_simple-requires t c = record { ops = c.requires.ops; simple = holds_none c.args.stmt.now c.in_default.not-Block c.in_default.not-Loop c.in_default.not-If }

pub pass_stmt-returns-in_ok-pass_body-in-Block-clause-passed : goal.pass_stmt-returns-in_ok-pass_body-in-Block-clause-passed
pass_stmt-returns-in_ok-pass_body-in-Block-clause-passed t c = words_block c.args.stmt.now c.args.around.level c.args.pass.outer.now c.args.inner.now.items
    (stmts c.deref.result.now) c.in_ok-push_label-in-Block.ensures.0 c.push_label.new.inner.items c.args.set.now c.in_ok-push_label-in-Block.ensures.2
    (block_is c.args.stmt.now c.in-Block.body c.in-Block.is no_more ∙ ap (λ xs. nests a_block (stmts xs) no_more) (sym c.deref.ensures.value)) c.in_ok-push_label-in-Block.ensures.1
    c.pass_body.new.inner c.pop.new.self.items c.pass_body.new.set c.in_ok-pass_body-in-Block.ensures.passed c.pop.ensures.rest

pub pass_stmt-returns-in_ok-pass_body-in-Block-clause-heads : goal.pass_stmt-returns-in_ok-pass_body-in-Block-clause-heads
pass_stmt-returns-in_ok-pass_body-in-Block-clause-heads t c = heads_block c.args.stmt.now c.args.around.level c.args.pass.outer.now c.args.inner.now.items
    (stmts c.deref.result.now) c.in_ok-push_label-in-Block.ensures.0 c.push_label.new.inner.items c.args.set.now c.in_ok-push_label-in-Block.ensures.2
    (block_is c.args.stmt.now c.in-Block.body c.in-Block.is no_more ∙ ap (λ xs. nests a_block (stmts xs) no_more) (sym c.deref.ensures.value)) c.in_ok-push_label-in-Block.ensures.1
    c.args.heads.now.items c.pass_body.new.heads.items c.in_ok-pass_body-in-Block.ensures.heads

pub pass_stmt-returns-in_ok-pass_body-in-Loop-clause-passed : goal.pass_stmt-returns-in_ok-pass_body-in-Loop-clause-passed
pass_stmt-returns-in_ok-pass_body-in-Loop-clause-passed t c = on_ok_weaker c.keep_words.result (λ k. words_loop c.args.stmt.now c.args.around.level c.args.pass.outer.now c.args.inner.now.items
    (stmts c.deref-in-Loop.result.now) c.in_ok-push_loop-in-Loop.ensures.label.0 c.push_loop.new.inner.items c.args.set.now c.in_ok-push_loop-in-Loop.ensures.label.2
    (loop_is c.args.stmt.now c.in-Loop.body c.in-Loop.is no_more ∙ ap (λ xs. nests a_loop (stmts xs) no_more) (sym c.deref-in-Loop.ensures.value))
    (own_of c.args.around.level (length c.args.set.now) (length c.args.set.now) c.in_ok-push_loop-in-Loop.ensures.label.0 refl c.in_ok-push_loop-in-Loop.ensures.label.1)
    c.requires.fresh c.pass_body-in-Loop.new.inner c.pass_body-in-Loop.new.set c.leave.new.set c.in_ok-pass_body-in-Loop.ensures.passed c.leave.auto.set c.leave.ensures
    c.pop-in-Loop.new.self.items c.pop-in-Loop.ensures.rest) c.keep_words.ensures

pub pass_stmt-returns-in_ok-pass_body-in-Loop-clause-heads : goal.pass_stmt-returns-in_ok-pass_body-in-Loop-clause-heads
pass_stmt-returns-in_ok-pass_body-in-Loop-clause-heads t c = on_ok_weaker c.keep_words.result (λ k. heads_loop c.args.stmt.now c.args.around.level c.args.pass.outer.now c.args.inner.now.items
    (stmts c.deref-in-Loop.result.now) c.in_ok-push_loop-in-Loop.ensures.label.0 c.push_loop.new.inner.items c.args.set.now c.in_ok-push_loop-in-Loop.ensures.label.2
    (loop_is c.args.stmt.now c.in-Loop.body c.in-Loop.is no_more ∙ ap (λ xs. nests a_loop (stmts xs) no_more) (sym c.deref-in-Loop.ensures.value))
    (own_of c.args.around.level (length c.args.set.now) (length c.args.set.now) c.in_ok-push_loop-in-Loop.ensures.label.0 refl c.in_ok-push_loop-in-Loop.ensures.label.1)
    c.requires.fresh c.pass_body-in-Loop.new.inner c.pass_body-in-Loop.new.set c.leave.new.set c.in_ok-pass_body-in-Loop.ensures.passed c.leave.auto.set c.leave.ensures
    c.args.heads.now.items c.pass_body-in-Loop.new.heads.items
    (put_as c.inside.result (deeper c.args.around.level) c.args.pass.outer.now c.push_loop.new.inner.items c.args.set.now (stmts c.deref-in-Loop.result.now) c.push_loop.new.heads.items
    (c.args.heads.now.items ++ None ∷ []) c.pass_body-in-Loop.new.heads.items c.inside.ensures c.in_ok-push_loop-in-Loop.ensures.head c.in_ok-pass_body-in-Loop.ensures.heads)
    c.len-at.result _ (c.len-at.ensures ∙ c.args.heads.now.ok.0) k) c.keep_words.ensures

pub pass_stmt-keep_words-requires : goal.pass_stmt-keep_words-requires
pass_stmt-keep_words-requires t c = head_there (deeper c.args.around.level) c.args.pass.outer.now c.push_loop.new.inner.items c.args.set.now (stmts c.deref-in-Loop.result.now) c.args.heads.now.items
    c.pass_body-in-Loop.new.heads.items c.len-at.result (c.len-at.ensures ∙ c.args.heads.now.ok.0)
    (put_as c.inside.result (deeper c.args.around.level) c.args.pass.outer.now c.push_loop.new.inner.items c.args.set.now (stmts c.deref-in-Loop.result.now) c.push_loop.new.heads.items
    (c.args.heads.now.items ++ None ∷ []) c.pass_body-in-Loop.new.heads.items c.inside.ensures c.in_ok-push_loop-in-Loop.ensures.head c.in_ok-pass_body-in-Loop.ensures.heads)

pub pass_stmt-returns-in_ok-pass_body-in-If-2-clause-passed : goal.pass_stmt-returns-in_ok-pass_body-in-If-2-clause-passed
pass_stmt-returns-in_ok-pass_body-in-If-2-clause-passed t c = words_if c.args.stmt.now c.args.around.level c.args.pass.outer.now c.args.inner.now.items c.in-If.cond (stmts c.deref-in-If-2.result.now)
    (stmts c.deref-in-If.result.now) c.in_ok-push_label-in-If.ensures.0 c.push_label-in-If.new.inner.items c.pass_body-in-If.new.inner.items c.args.set.now c.deref_mut.result.now
    (if_is c.args.stmt.now c.in-If.cond c.in-If.then_arm c.in-If.else_arm c.in-If.is no_more
    ∙ (λ j. decides c.in-If.cond (stmts (sym c.deref-in-If-2.ensures.value j)) (stmts (sym c.deref-in-If.ensures.value j)) no_more))
    c.in_ok-push_label-in-If.ensures.1 (c.deref_mut.ensures.value ∙ c.in_ok-other-in-If.ensures) c.in_ok-push_label-in-If.ensures.2 c.in_ok-pass_body-in-If.ensures.passed.labels
    c.pass_body-in-If-2.new.inner c.pop-in-If.new.self.items c.pass_body-in-If-2.new.set c.deref-in-If-3.result.now c.pass_body-in-If.new.set c.join.new.set c.read_operand.new.set
    (c.deref-in-If-3.ensures.value ∙ put_back_words c.pass_body-in-If-2.new.set c.in_ok-other-in-If.other.items c.in_ok-other-in-If.other.len
    (words_size c.args.pass.outer.now c.pass_body-in-If.new.inner.items c.deref_mut.result.now c.pass_body-in-If-2.new.set
    (code_of (stmts c.deref-in-If-2.result.now)) c.in_ok-pass_body-in-If-2.ensures.passed.tells
    ∙ ap length c.deref_mut.ensures.value) (sym c.in_ok-other-in-If.other.ok.0))
    c.in_ok-pass_body-in-If.ensures.passed c.in_ok-pass_body-in-If-2.ensures.passed c.pop-in-If.ensures.rest c.join.auto.set c.join.ensures c.read_operand.ensures

pub pass_stmt-returns-in_ok-pass_body-in-If-2-clause-heads : goal.pass_stmt-returns-in_ok-pass_body-in-If-2-clause-heads
pass_stmt-returns-in_ok-pass_body-in-If-2-clause-heads t c = heads_if c.args.stmt.now c.args.around.level c.args.pass.outer.now c.args.inner.now.items c.in-If.cond (stmts c.deref-in-If-2.result.now)
    (stmts c.deref-in-If.result.now) c.in_ok-push_label-in-If.ensures.0 c.push_label-in-If.new.inner.items c.pass_body-in-If.new.inner.items c.args.set.now c.deref_mut.result.now
    (if_is c.args.stmt.now c.in-If.cond c.in-If.then_arm c.in-If.else_arm c.in-If.is no_more
    ∙ (λ j. decides c.in-If.cond (stmts (sym c.deref-in-If-2.ensures.value j)) (stmts (sym c.deref-in-If.ensures.value j)) no_more))
    c.in_ok-push_label-in-If.ensures.1 (c.deref_mut.ensures.value ∙ c.in_ok-other-in-If.ensures) c.in_ok-push_label-in-If.ensures.2 c.in_ok-pass_body-in-If.ensures.passed.labels
    c.args.heads.now.items c.pass_body-in-If.new.heads.items c.pass_body-in-If-2.new.heads.items c.in_ok-pass_body-in-If.ensures.heads c.in_ok-pass_body-in-If-2.ensures.heads

pub pass_stmt-returns-in_default : goal.pass_stmt-returns-in_default
pass_stmt-returns-in_default t c = record {
  passed = record {
    labels = refl;
    tells = subst (λ ts. WordsBefore c.args.pass.outer.now ts c.args.set.now c.pass_simple.new.set (code_of (stmt_in_front c.args.stmt.now no_more)))
        c.deref-in_default.ensures.value c.pass_simple.ensures;
  };
  heads = heads_none c.args.around.level c.args.pass.outer.now c.args.inner.now.items c.args.set.now (stmt_in_front c.args.stmt.now no_more) c.args.heads.now.items
      (no_loops c.args.stmt.now c.in_default.not-Block c.in_default.not-Loop c.in_default.not-If);
}
