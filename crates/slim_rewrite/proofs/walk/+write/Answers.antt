use Rattle.std.proofs.Common.{◌≡◌, arith, ap, false, true, refl, sym, subst, ◌∙◌, ◌+◌, Some}
use Rattle.std.specs.Prelude.{◌&&◌, not}
use Rattle.std.proofs.lemmas.Result.{IfOk-weaker}
use Rattle.wa_types.specs.Syntax.{a_block, a_loop, done}
use Rattle.wa_types.specs.View.{in_front}
use Rattle.wa_model.specs.declared.flat.Operand.TheVariants.{Local}
use Rattle.run_theory.specs.Flat.{no_more, calls, nests, decides}
use Rattle.run_theory.specs.FlatView.{stmt_in_front, stmts}
use Rattle.flow_rewrite.proofs.StmtLemmas.{block_is, call_is, if_is, loop_is}
use Rattle.flow_rewrite.proofs.StmtWeights.{one_lighter, weight}
use Rattle.slim_rewrite.specs.Coming.{Ready}
use Rattle.slim_rewrite.specs.declared.sequence.Sequence.{Sequence}
use Rattle.slim_rewrite.specs.declared.sequence.Written.{Written}
use Rattle.slim_rewrite.specs.Inside.{unboxed, ConditionTold, InsideTold, Left, WrittenTold}
use Rattle.slim_rewrite.specs.Steps.{Put}
use Rattle.slim_rewrite.proofs.ConstructLemmas.{block_put, flushed_put, loop_put}
use Rattle.slim_rewrite.proofs.IfLemmas.{if_put}
use Rattle.slim_rewrite.proofs.InsideLemmas.{claimed_inside, inside_is}
use Rattle.slim_rewrite.proofs.SingleLemmas.{put_as}
use Rattle.slim_rewrite.proofs.WalkLemmas.{walked_start, walked_ready, walked_next, walked_end, nest_ready, was_put}
use Rattle.slim_rewrite.proofs.walk.+write.Goals as goal

pub write_sequence-loop-stmt-init : goal.write_sequence-loop-stmt-init
write_sequence-loop-stmt-init t c =
    let b = c.in_ok-all.ensures in record {
      walked = walked_start c.args.numbers.now c.args.at.now c.args.place (stmts c.args.body.now) c.in_ok-all.all.value c.requires.good c.requires.piece c.requires.ready b.units b.closed b.place b.ended;
      next = refl;
    }

pub write_sequence-write_stmt-put-requires : goal.write_sequence-write_stmt-put-requires
write_sequence-write_stmt-put-requires t c = (
  omega (arith, c.decreases, one_lighter c.args.body.now c.loop-stmt.stmt-index c.stmt-item.result (omega (arith, c.loop-stmt-test.true)) c.stmt-item.is),
  (
    c.requires.rises,
    (
      c.loop-stmt.invariant.walked.good,
      subst (λ (q : Sequence). Ready q.place (stmt_in_front c.stmt-item.result no_more)) (sym c.deref_mut.ensures.value)
          (walked_ready c.args.numbers.now c.args.at.now c.args.place (stmts c.args.body.now) c.args.body.now c.loop-stmt.stmt-index c.loop-stmt.at c.loop-stmt.all.value c.stmt-item.result
          (omega (arith, c.loop-stmt-test.true)) c.stmt-item.is c.loop-stmt.invariant.walked),
    ),
  ),
)

pub write_sequence-loop-stmt-preserved : goal.write_sequence-loop-stmt-preserved
write_sequence-loop-stmt-preserved t c = record {
  walked = walked_next c.args.numbers.now c.args.at.now c.args.place (stmts c.args.body.now) c.args.body.now c.loop-stmt.stmt-index c.loop-stmt.at c.loop-stmt.all.value c.write_stmt-put.new.at
      c.write_stmt-put.new.all c.stmt-item.result (omega (arith, c.loop-stmt-test.true)) c.stmt-item.is c.loop-stmt.invariant.walked
      (subst (λ (q : Sequence). Put c.args.numbers.now c.loop-stmt.at q c.write_stmt-put.new.at c.write_stmt-put.new.all (stmt_in_front c.stmt-item.result)) c.deref_mut.ensures.value
      (was_put c.write_stmt-put.result (λ put. put ≡ true → Put c.args.numbers.now c.loop-stmt.at c.deref_mut.result.now c.write_stmt-put.new.at c.write_stmt-put.new.all
      (stmt_in_front c.stmt-item.result)) (c.goes_on.ensures c.if-not-goes_on.false) c.write_stmt-put.ensures refl));
  next = ap (λ k. k + 1) c.loop-stmt.invariant.next;
}

pub write_sequence-returns : goal.write_sequence-returns
write_sequence-returns t c = walked_end c.args.numbers.now c.args.at.now c.args.place (stmts c.args.body.now) c.args.body.now c.loop-stmt.stmt-index c.loop-stmt.at c.loop-stmt.all.value
    c.finish_apart.new.at c.in_ok-written.written.value (omega (arith, c.loop-stmt-test.false)) c.loop-stmt.invariant.walked c.in_ok-written.ensures

pub write_inside-returns : goal.write_inside-returns
write_inside-returns t c =
    let ps = c.args.numbers.now in
    let s = stmts c.args.body.now in
    let w = c.in-Some.written.value in
    let told = c.unreached.ensures c.in-Some-unreached.slot c.in-Some-unreached.is in
    let e = c.deref-2.ensures in
    let h =
    inside_is ps c.args.at.now c.enter-outside.new.at c.write_sequence.new.at c.leave.new.at c.enter-outside.result c.args.place s c.args.kept w c.requires.good c.requires.bare
    c.enter-outside.ensures (subst (λ o. WrittenTold ps c.enter-outside.new.at c.args.place s c.write_sequence.new.at (unboxed o)) c.in-Some.is c.in_ok-written.ensures)
    (subst (λ (v : Written). Left c.write_sequence.new.at c.leave.new.at c.enter-outside.result (c.args.kept && not v.ended)) c.deref.ensures
    (subst (Left c.write_sequence.new.at c.leave.new.at c.enter-outside.result) c.stays-left.ensures c.leave.ensures)) in
    claimed_inside ps c.args.at.now c.args.place s c.args.kept c.leave.new.at c.claim.new.at w told.0 (ap (λ (v : Written). v.ended) (sym e) ∙ told.1) h (c.in_ok-claim.ensures c.if-not-branch.false)

pub write_inside-returns-in_default-unreached : goal.write_inside-returns-in_default-unreached
write_inside-returns-in_default-unreached t c =
    let ps = c.args.numbers.now in
    let s = stmts c.args.body.now in
    inside_is ps c.args.at.now c.enter-outside.new.at c.write_sequence.new.at c.leave.new.at c.enter-outside.result c.args.place s c.args.kept c.in-Some.written.value c.requires.good c.requires.bare
    c.enter-outside.ensures (subst (λ o. WrittenTold ps c.enter-outside.new.at c.args.place s c.write_sequence.new.at (unboxed o)) c.in-Some.is c.in_ok-written.ensures)
    (subst (λ (v : Written). Left c.write_sequence.new.at c.leave.new.at c.enter-outside.result (c.args.kept && not v.ended)) c.deref.ensures
    (subst (Left c.write_sequence.new.at c.leave.new.at c.enter-outside.result) c.stays-left.ensures c.leave.ensures))

pub write_if-returns : goal.write_if-returns
write_if-returns t c = λ z.
    let ps = c.args.numbers.now in
    let a = c.args.at.now in
    let m = c.take_condition.new.at in
    let d1 = c.write_inside.new.at in
    let d2 = c.write_inside-2.new.at in
    let s2 = stmts c.args.else_arm.now in
    let told : InsideTold ps d1 c.in-Some-2.first.value.place s2 false d2 (unboxed (Some c.in-Some-3.second)) =
    subst (λ (v : Written). InsideTold ps d1 v.place s2 false d2 (unboxed (Some c.in-Some-3.second))) c.deref.ensures
    (subst (λ o. InsideTold ps d1 c.deref.result.now.place s2 false d2 (unboxed o)) c.in-Some-3.is c.in_ok-second.ensures) in
    if_put ps a m d1 d2 c.put_if_apart.new.at c.args.all.now c.put_if_apart.new.all c.args.x c.in-Some.direct (stmts c.args.then_arm.now) s2 c.in-Some-2.first.value c.in-Some-3.second.value
    c.requires.good c.requires.goes (subst (ConditionTold a m c.args.x) c.in-Some.is c.in_ok-direct.ensures)
    (subst (λ o. InsideTold ps m c.args.all.now.place (stmts c.args.then_arm.now) false d1 (unboxed o)) c.in-Some-2.is c.in_ok-first.ensures)
    told c.in_ok-put_if_apart.ensures

pub write_stmt-put_call-requires-clause-ready : goal.write_stmt-put_call-requires-clause-ready
write_stmt-put_call-requires-clause-ready t c = subst (Ready c.args.all.now.place)
    (call_is c.args.stmt.now c.in-Call.op c.in-Call.stack c.in-Call.args c.in-Call.to c.in-Call.is no_more
    ∙ ap (λ ys. calls (in_front c.in-Call.op done) ys c.in-Call.args c.in-Call.to no_more) (sym c.deref.ensures.value)) c.requires.ready

pub write_stmt-write_block-requires : goal.write_stmt-write_block-requires
write_stmt-write_block-requires t c =
    let e = block_is c.args.stmt.now c.in-Block.body c.in-Block.is no_more ∙ ap (λ ys. nests a_block (stmts ys) no_more) (sym c.deref-in-Block.ensures.value) in (
      omega (arith, c.decreases, ap weight e),
      (c.requires.rises, (c.requires.good, (c.if-all.false, subst (Ready c.args.all.now.place) e c.requires.ready))),
    )

pub write_stmt-write_loop-requires : goal.write_stmt-write_loop-requires
write_stmt-write_loop-requires t c =
    let e = loop_is c.args.stmt.now c.in-Loop.body c.in-Loop.is no_more ∙ ap (λ ys. nests a_loop (stmts ys) no_more) (sym c.deref-in-Loop.ensures.value) in (
      omega (arith, c.decreases, ap weight e),
      (c.requires.rises, (c.requires.good, (c.if-all.false, subst (Ready c.args.all.now.place) e c.requires.ready))),
    )

pub write_stmt-write_if-requires : goal.write_stmt-write_if-requires
write_stmt-write_if-requires t c =
    let e = if_is c.args.stmt.now c.in-If.cond c.in-If.then_arm c.in-If.else_arm c.in-If.is no_more
    ∙ (λ j. decides (c.in-Local.is j) (stmts (sym c.deref-in-If.ensures.value j)) (stmts (sym c.deref-in-If-2.ensures.value j)) no_more) in (
      omega (arith, c.decreases, ap weight e),
      (c.requires.rises, (c.requires.good, (c.if-all.false, subst (Ready c.args.all.now.place) e c.requires.ready))),
    )

pub write_block-write_inside-requires : goal.write_block-write_inside-requires
write_block-write_inside-requires t c = (
  omega (arith, c.decreases),
  (
    c.requires.rises,
    (
      c.in_ok-flush.ensures.good,
      (c.in_ok-flush.ensures.set, nest_ready c.args.all.now.place a_block (stmts c.args.body.now) (nests a_block (stmts c.args.body.now) no_more) refl c.requires.ready),
    ),
  ),
)

pub write_loop-write_inside-requires : goal.write_loop-write_inside-requires
write_loop-write_inside-requires t c = (
  omega (arith, c.decreases),
  (
    c.requires.rises,
    (
      c.in_ok-flush.ensures.good,
      (c.in_ok-flush.ensures.set, nest_ready c.args.all.now.place a_loop (stmts c.args.body.now) (nests a_loop (stmts c.args.body.now) no_more) refl c.requires.ready),
    ),
  ),
)

pub write_block-returns : goal.write_block-returns
write_block-returns t c = λ z.
    let ps = c.args.numbers.now in
    let a = c.args.at.now in
    let m = c.flush.new.at in
    let d = c.write_inside.new.at in
    let b = c.put_block_apart.new.at in
    let p = c.args.all.now in
    let q = c.put_block_apart.new.all in
    let s = stmts c.args.body.now in
    flushed_put ps a m b p q (nests a_block s) c.requires.goes c.requires.good c.in_ok-flush.ensures
    (block_put ps m d b p q s c.in-Some.inner.value c.requires.goes c.in_ok-flush.ensures.set
    (subst (λ o. InsideTold ps m p.place s false d (unboxed o)) c.in-Some.is c.in_ok-inner.ensures) c.in_ok-put_block_apart.ensures)

pub write_loop-returns : goal.write_loop-returns
write_loop-returns t c = λ z.
    let ps = c.args.numbers.now in
    let a = c.args.at.now in
    let m = c.flush.new.at in
    let d = c.write_inside.new.at in
    let b = c.put_loop_apart.new.at in
    let p = c.args.all.now in
    let q = c.put_loop_apart.new.all in
    let s = stmts c.args.body.now in
    flushed_put ps a m b p q (nests a_loop s) c.requires.goes c.requires.good c.in_ok-flush.ensures
    (loop_put ps m d b p q s c.in-Some.inner.value c.requires.goes c.in_ok-flush.ensures.set
    (subst (λ o. InsideTold ps m p.place s true d (unboxed o)) c.in-Some.is c.in_ok-inner.ensures) c.in_ok-put_loop_apart.ensures)

pub write_stmt-returns-in-Call : goal.write_stmt-returns-in-Call
write_stmt-returns-in-Call t c = IfOk-weaker c.put_call.result _ _
    (λ put h z. put_as c.args.numbers.now c.args.at.now c.put_call.new.at c.args.all.now c.put_call.new.all
    (calls (in_front c.in-Call.op done) c.deref.result.now c.in-Call.args c.in-Call.to) (stmt_in_front c.args.stmt.now)
    (λ k. call_is c.args.stmt.now c.in-Call.op c.in-Call.stack c.in-Call.args c.in-Call.to c.in-Call.is k
    ∙ ap (λ ys. calls (in_front c.in-Call.op done) ys c.in-Call.args c.in-Call.to k) (sym c.deref.ensures.value)) (h z)) c.put_call.ensures

pub write_stmt-returns-in-Block : goal.write_stmt-returns-in-Block
write_stmt-returns-in-Block t c = IfOk-weaker c.write_block.result _ _
    (λ put h z. put_as c.args.numbers.now c.args.at.now c.write_block.new.at c.args.all.now c.write_block.new.all
    (nests a_block (stmts c.deref-in-Block.result.now)) (stmt_in_front c.args.stmt.now)
    (λ k. block_is c.args.stmt.now c.in-Block.body c.in-Block.is k ∙ ap (λ ys. nests a_block (stmts ys) k) (sym c.deref-in-Block.ensures.value)) (h z)) c.write_block.ensures

pub write_stmt-returns-in-Loop : goal.write_stmt-returns-in-Loop
write_stmt-returns-in-Loop t c = IfOk-weaker c.write_loop.result _ _
    (λ put h z. put_as c.args.numbers.now c.args.at.now c.write_loop.new.at c.args.all.now c.write_loop.new.all
    (nests a_loop (stmts c.deref-in-Loop.result.now)) (stmt_in_front c.args.stmt.now)
    (λ k. loop_is c.args.stmt.now c.in-Loop.body c.in-Loop.is k ∙ ap (λ ys. nests a_loop (stmts ys) k) (sym c.deref-in-Loop.ensures.value)) (h z)) c.write_loop.ensures

pub write_stmt-returns-in-Local : goal.write_stmt-returns-in-Local
write_stmt-returns-in-Local t c = IfOk-weaker c.write_if.result _ _
    (λ put h z. put_as c.args.numbers.now c.args.at.now c.write_if.new.at c.args.all.now c.write_if.new.all
    (decides (Local c.in-Local.x) (stmts c.deref-in-If.result.now) (stmts c.deref-in-If-2.result.now)) (stmt_in_front c.args.stmt.now)
    (λ k. if_is c.args.stmt.now c.in-If.cond c.in-If.then_arm c.in-If.else_arm c.in-If.is k
    ∙ (λ j. decides (c.in-Local.is j) (stmts (sym c.deref-in-If.ensures.value j)) (stmts (sym c.deref-in-If-2.ensures.value j)) k)) (h z)) c.write_if.ensures

pub write_stmt-returns-in_default : goal.write_stmt-returns-in_default
write_stmt-returns-in_default t c = IfOk-weaker c.put_single.result _ _ (λ put h z. h z c.args.numbers.now) c.put_single.ensures
