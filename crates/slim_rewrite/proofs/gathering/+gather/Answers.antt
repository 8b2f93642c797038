use Rattle.std.proofs.Common.{arith, ap, sym, subst, ◌∙◌}
use Rattle.wa_types.specs.Syntax.{a_block, a_loop, done}
use Rattle.wa_types.specs.View.{in_front}
use Rattle.run_theory.specs.Flat.{no_more, calls, nests, decides}
use Rattle.run_theory.specs.FlatView.{stmt_in_front, stmts}
use Rattle.flow_rewrite.proofs.StmtLemmas.{block_is, call_is, if_is, loop_is}
use Rattle.flow_rewrite.proofs.StmtWeights.{one_lighter, weight}
use Rattle.slim_rewrite.specs.declared.sequence.Sequence.{Sequence}
use Rattle.slim_rewrite.specs.declared.sequence.Written.{Written}
use Rattle.slim_rewrite.specs.Coming.{Ready}
use Rattle.slim_rewrite.specs.Gathering.{Gathered, IsGathered}
use Rattle.slim_rewrite.proofs.GatherLemmas.{bare_good, gathered_as, gathered_end, gathered_next, gathered_ready, gathered_start, if_gathered, nest_gathered, simple_gathered, simple_of}
use Rattle.slim_rewrite.proofs.NestLemmas.{on_ok}
use Rattle.slim_rewrite.proofs.WalkLemmas.{arms_ready, nest_ready}
use Rattle.slim_rewrite.proofs.gathering.+gather.Goals as goal

pub gather_sequence-loop-stmt-init : goal.gather_sequence-loop-stmt-init
gather_sequence-loop-stmt-init t c =
    gathered_start c.args.numbers.now c.args.at.now c.enter-outside.new.at c.enter-outside.result c.args.place (stmts c.args.body.now) c.in_ok-all.all.value c.requires.bare c.enter-outside.ensures
    c.in_ok-all.ensures c.requires.ready

pub gather_sequence-gather_stmt-requires : goal.gather_sequence-gather_stmt-requires
gather_sequence-gather_stmt-requires t c = (
  omega (arith, c.decreases, one_lighter c.args.body.now c.loop-stmt.stmt-index c.stmt-item.result (omega (arith, c.loop-stmt-test.true)) c.stmt-item.is),
  (
    c.requires.rises,
    (
      c.loop-stmt.invariant.bare,
      subst (λ (q : Sequence). Ready q.place (stmt_in_front c.stmt-item.result no_more)) (sym c.deref_mut.ensures.value)
          (gathered_ready c.args.numbers.now c.args.place (stmts c.args.body.now) c.args.body.now c.loop-stmt.stmt-index c.loop-stmt.at c.loop-stmt.all.value c.loop-stmt.invariant c.stmt-item.result
          (omega (arith, c.loop-stmt-test.true)) c.stmt-item.is),
    ),
  ),
)

pub gather_sequence-loop-stmt-preserved : goal.gather_sequence-loop-stmt-preserved
gather_sequence-loop-stmt-preserved t c =
    gathered_next c.args.numbers.now c.args.place (stmts c.args.body.now) c.args.body.now c.loop-stmt.stmt-index c.loop-stmt.at c.loop-stmt.all.value c.loop-stmt.invariant c.gather_stmt.new.at
    c.gather_stmt.new.all c.stmt-item.result (omega (arith, c.loop-stmt-test.true)) c.stmt-item.is
    (subst (λ (q : Sequence). Gathered c.args.numbers.now c.loop-stmt.at q c.gather_stmt.new.at c.gather_stmt.new.all (stmt_in_front c.stmt-item.result)) c.deref_mut.ensures.value
    c.in_ok-gather_stmt.ensures)

pub gather_sequence-finish_apart-requires : goal.gather_sequence-finish_apart-requires
gather_sequence-finish_apart-requires t c = bare_good c.loop-stmt.at c.loop-stmt.invariant.bare

pub gather_sequence-returns : goal.gather_sequence-returns
gather_sequence-returns t c =
    gathered_end c.args.numbers.now c.args.place (stmts c.args.body.now) c.args.body.now c.loop-stmt.stmt-index c.loop-stmt.at c.loop-stmt.all.value c.loop-stmt.invariant c.args.at.now
    c.enter-outside.new.at c.finish_apart.new.at c.leave.new.at c.enter-outside.result c.in_ok-written.written.value (omega (arith, c.loop-stmt-test.false)) c.requires.bare c.enter-outside.ensures
    c.in_ok-written.ensures c.leave.ensures

pub gather_stmt-gather_call-requires-clause-ready : goal.gather_stmt-gather_call-requires-clause-ready
gather_stmt-gather_call-requires-clause-ready t c = subst (Ready c.args.all.now.place)
    (call_is c.args.stmt.now c.in-Call.op c.in-Call.stack c.in-Call.args c.in-Call.to c.in-Call.is no_more
    ∙ ap (λ ys. calls (in_front c.in-Call.op done) ys c.in-Call.args c.in-Call.to no_more) (sym c.deref.ensures.value)) c.requires.ready

pub gather_stmt-gather_sequence-requires : goal.gather_stmt-gather_sequence-requires
gather_stmt-gather_sequence-requires t c =
    let e = block_is c.args.stmt.now c.in-Block.body c.in-Block.is no_more ∙ ap (λ ys. nests a_block (stmts ys) no_more) (sym c.deref-in-Block.ensures.value) in (
      omega (arith, c.decreases, ap weight e),
      (c.requires.rises, (c.requires.bare, nest_ready c.args.all.now.place a_block (stmts c.deref-in-Block.result.now) (stmt_in_front c.args.stmt.now no_more) e c.requires.ready)),
    )

pub gather_stmt-gather_sequence-requires-in-Loop : goal.gather_stmt-gather_sequence-requires-in-Loop
gather_stmt-gather_sequence-requires-in-Loop t c =
    let e = loop_is c.args.stmt.now c.in-Loop.body c.in-Loop.is no_more ∙ ap (λ ys. nests a_loop (stmts ys) no_more) (sym c.deref-in-Loop.ensures.value) in (
      omega (arith, c.decreases, ap weight e),
      (c.requires.rises, (c.requires.bare, nest_ready c.args.all.now.place a_loop (stmts c.deref-in-Loop.result.now) (stmt_in_front c.args.stmt.now no_more) e c.requires.ready)),
    )

pub gather_stmt-gather_sequence-requires-in-If : goal.gather_stmt-gather_sequence-requires-in-If
gather_stmt-gather_sequence-requires-in-If t c =
    let e = if_is c.args.stmt.now c.in-If.cond c.in-If.then_arm c.in-If.else_arm c.in-If.is no_more
    ∙ (λ j. decides c.in-If.cond (stmts (sym c.deref-in-If.ensures.value j)) (stmts c.in-If.else_arm.items) no_more) in (
      omega (arith, c.decreases, ap weight e),
      (c.requires.rises, (c.requires.bare, (arms_ready c.args.all.now.place c.in-If.cond _ _ (subst (Ready c.args.all.now.place) e c.requires.ready)).0)),
    )

pub gather_stmt-gather_sequence-requires-in-If-2 : goal.gather_stmt-gather_sequence-requires-in-If-2
gather_stmt-gather_sequence-requires-in-If-2 t c =
    let e = if_is c.args.stmt.now c.in-If.cond c.in-If.then_arm c.in-If.else_arm c.in-If.is no_more
    ∙ (λ j. decides c.in-If.cond (stmts (sym c.deref-in-If.ensures.value j)) (stmts (sym c.deref-in-If-3.ensures.value j)) no_more) in (
      omega (arith, c.decreases, ap weight e),
      (
        c.requires.rises,
        (
          c.in_ok-first-in-If.ensures.bare,
          (arms_ready c.args.all.now.place c.in-If.cond _ _ (subst (Ready c.args.all.now.place) e c.requires.ready)).1 _ (ap (λ (v : Written). v.place) c.deref-in-If-2.ensures ∙ c.in_ok-first-in-If.ensures.place),
        ),
      ),
    )

pub gather_stmt-put_block_apart-requires : goal.gather_stmt-put_block_apart-requires
gather_stmt-put_block_apart-requires t c = bare_good c.gather_sequence.new.at c.in_ok-inner-in-Block.ensures.bare

pub gather_stmt-put_loop_apart-requires : goal.gather_stmt-put_loop_apart-requires
gather_stmt-put_loop_apart-requires t c = bare_good c.gather_sequence-in-Loop.new.at c.in_ok-inner-in-Loop.ensures.bare

pub gather_stmt-put_if_apart-requires : goal.gather_stmt-put_if_apart-requires
gather_stmt-put_if_apart-requires t c = bare_good c.gather_sequence-in-If-2.new.at c.in_ok-second-in-If.ensures.bare

pub gather_stmt-put_simple-requires : goal.gather_stmt-put_simple-requires
gather_stmt-put_simple-requires t c = simple_of c.requires.ready.locals c.requires.ready.labels c.args.stmt.now c.requires.ready.fit c.in_default.not-Call c.in_default.not-Block
    c.in_default.not-Loop c.in_default.not-If

pub gather_stmt-returns-in-Call : goal.gather_stmt-returns-in-Call
gather_stmt-returns-in-Call t c = on_ok c.gather_call.result _ _
    (λ put. gathered_as c.args.numbers.now c.args.at.now c.gather_call.new.at c.args.all.now c.gather_call.new.all
    (calls (in_front c.in-Call.op done) c.deref.result.now c.in-Call.args c.in-Call.to) (stmt_in_front c.args.stmt.now)
    (λ k. call_is c.args.stmt.now c.in-Call.op c.in-Call.stack c.in-Call.args c.in-Call.to c.in-Call.is k
    ∙ ap (λ ys. calls (in_front c.in-Call.op done) ys c.in-Call.args c.in-Call.to k) (sym c.deref.ensures.value)) put) c.gather_call.ensures

pub gather_stmt-returns-in_ok-inner-in-Block : goal.gather_stmt-returns-in_ok-inner-in-Block
gather_stmt-returns-in_ok-inner-in-Block t c = on_ok c.put_block_apart.result _ _
    (λ put. gathered_as c.args.numbers.now c.args.at.now c.put_block_apart.new.at c.args.all.now c.put_block_apart.new.all (nests a_block (stmts c.deref-in-Block.result.now))
    (stmt_in_front c.args.stmt.now)
    (λ k. block_is c.args.stmt.now c.in-Block.body c.in-Block.is k ∙ ap (λ ys. nests a_block (stmts ys) k) (sym c.deref-in-Block.ensures.value))
    (nest_gathered c.args.numbers.now c.args.at.now c.gather_sequence.new.at c.put_block_apart.new.at c.args.all.now c.put_block_apart.new.all a_block (stmts c.deref-in-Block.result.now)
    c.in_ok-inner-in-Block.inner.value c.in_ok-inner-in-Block.ensures put)) c.put_block_apart.ensures

pub gather_stmt-returns-in_ok-inner-in-Loop : goal.gather_stmt-returns-in_ok-inner-in-Loop
gather_stmt-returns-in_ok-inner-in-Loop t c = on_ok c.put_loop_apart.result _ _
    (λ put. gathered_as c.args.numbers.now c.args.at.now c.put_loop_apart.new.at c.args.all.now c.put_loop_apart.new.all (nests a_loop (stmts c.deref-in-Loop.result.now))
    (stmt_in_front c.args.stmt.now)
    (λ k. loop_is c.args.stmt.now c.in-Loop.body c.in-Loop.is k ∙ ap (λ ys. nests a_loop (stmts ys) k) (sym c.deref-in-Loop.ensures.value))
    (nest_gathered c.args.numbers.now c.args.at.now c.gather_sequence-in-Loop.new.at c.put_loop_apart.new.at c.args.all.now c.put_loop_apart.new.all a_loop (stmts c.deref-in-Loop.result.now)
    c.in_ok-inner-in-Loop.inner.value c.in_ok-inner-in-Loop.ensures put)) c.put_loop_apart.ensures

pub gather_stmt-returns-in_ok-second-in-If : goal.gather_stmt-returns-in_ok-second-in-If
gather_stmt-returns-in_ok-second-in-If t c = on_ok c.put_if_apart.result _ _
    (λ put. gathered_as c.args.numbers.now c.args.at.now c.put_if_apart.new.at c.args.all.now c.put_if_apart.new.all
    (decides c.in-If.cond (stmts c.deref-in-If.result.now) (stmts c.deref-in-If-3.result.now)) (stmt_in_front c.args.stmt.now)
    (λ k. if_is c.args.stmt.now c.in-If.cond c.in-If.then_arm c.in-If.else_arm c.in-If.is k
    ∙ (λ j. decides c.in-If.cond (stmts (sym c.deref-in-If.ensures.value j)) (stmts (sym c.deref-in-If-3.ensures.value j)) k))
    (if_gathered c.args.numbers.now c.args.at.now c.gather_sequence-in-If.new.at c.gather_sequence-in-If-2.new.at c.put_if_apart.new.at c.args.all.now c.put_if_apart.new.all c.in-If.cond
    (stmts c.deref-in-If.result.now) (stmts c.deref-in-If-3.result.now) c.in_ok-first-in-If.first.value c.in_ok-second-in-If.second.value c.in_ok-first-in-If.ensures
    (subst (λ (v : Written). IsGathered c.args.numbers.now c.gather_sequence-in-If.new.at v.place (stmts c.deref-in-If-3.result.now) c.gather_sequence-in-If-2.new.at c.in_ok-second-in-If.second.value)
    c.deref-in-If-2.ensures c.in_ok-second-in-If.ensures) put)) c.put_if_apart.ensures

pub gather_stmt-returns-in_default : goal.gather_stmt-returns-in_default
gather_stmt-returns-in_default t c = on_ok c.put_simple.result _ _
    (λ puts. simple_gathered c.args.numbers.now c.args.at.now _ c.args.all.now c.args.stmt.now
    (record { stack = c.requires.bare.stack; set = c.requires.bare.set; floor = c.requires.bare.floor })
    (simple_of c.requires.ready.locals c.requires.ready.labels c.args.stmt.now c.requires.ready.fit c.in_default.not-Call c.in_default.not-Block c.in_default.not-Loop c.in_default.not-If) puts)
    c.put_simple.ensures
