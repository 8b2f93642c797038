use Rattle.std.proofs.Common.{ap, arith, ◌∙◌}
use Rattle.std.proofs.lemmas.Result.{IfOk-weaker}
use Rattle.wa_types.specs.View.{code}
use Rattle.wa_types.proofs.LeafLemmas.{leaf_other}
use Rattle.guard_form.specs.Asserts.{asserted_reached}
use Rattle.assert_rewrite.proofs.ReachedLemmas.{body_end, body_start, body_step, stands_block, stands_if, stands_leaf, stands_loop}
use Rattle.assert_rewrite.proofs.reached.+reached.Goals as goal

pub assert_body-loop-instr-init : goal.assert_body-loop-instr-init
assert_body-loop-instr-init t c = body_start c.args.state c.new-out.result.items c.args.body.now c.new-out.ensures.items

pub assert_body-loop-instr-preserved : goal.assert_body-loop-instr-preserved
assert_body-loop-instr-preserved t c =
    body_step c.args.state c.loop-instr.out.items c.put_next.new.out.items c.args.body.now c.loop-instr.instr-index c.instr-item.result c.loop-instr.reached c.in_ok-reached.reached _
    (omega (arith, c.loop-instr-test.true)) c.instr-item.is c.in_ok-reached.ensures c.loop-instr.invariant

pub assert_body-returns : goal.assert_body-returns
assert_body-returns t c =
    body_end c.args.state c.loop-instr.out.items c.args.body.now c.loop-instr.instr-index c.loop-instr.reached _ (omega (arith, c.loop-instr-test.false)) c.loop-instr.invariant

pub assert_instr-copy_leaf-requires : goal.assert_instr-copy_leaf-requires
assert_instr-copy_leaf-requires t c = leaf_other c.args.instr.now c.in_default.not-Block c.in_default.not-Loop c.in_default.not-If

pub assert_instr-returns-in_ok-assert_body-in-Block : goal.assert_instr-returns-in_ok-assert_body-in-Block
assert_instr-returns-in_ok-assert_body-in-Block t c =
    stands_block c.args.state c.args.instr.now c.args.reached c.in-Block.result c.in-Block.body c.in_ok-assert_body-in-Block.field-0 c.if-not-reached.false c.in-Block.is
    (c.in_ok-assert_body-in-Block.ensures ∙ ap (λ xs. asserted_reached c.args.state (code xs)) c.deref.ensures.value)

pub assert_instr-returns-in_ok-assert_body-in-Loop : goal.assert_instr-returns-in_ok-assert_body-in-Loop
assert_instr-returns-in_ok-assert_body-in-Loop t c =
    stands_loop c.args.state c.args.instr.now c.args.reached c.in-Loop.result c.in-Loop.body c.in_ok-assert_body-in-Loop.field-0 c.if-not-reached.false c.in-Loop.is
    (c.in_ok-assert_body-in-Loop.ensures ∙ ap (λ xs. asserted_reached c.args.state (code xs)) c.deref-in-Loop.ensures.value)

pub assert_instr-returns-in_ok-assert_body-in-If-2 : goal.assert_instr-returns-in_ok-assert_body-in-If-2
assert_instr-returns-in_ok-assert_body-in-If-2 t c =
    stands_if c.args.state c.args.instr.now c.args.reached c.in-If.result c.in-If.then_arm c.in-If.else_arm c.in_ok-assert_body-in-If.field-0 c.in_ok-assert_body-in-If-2.field-0
    c.if-not-reached.false c.in-If.is
    (c.in_ok-assert_body-in-If.ensures ∙ ap (λ xs. asserted_reached c.args.state (code xs)) c.deref-in-If.ensures.value)
    (c.in_ok-assert_body-in-If-2.ensures ∙ ap (λ xs. asserted_reached c.args.state (code xs)) c.deref-in-If-2.ensures.value)

pub assert_instr-returns-in_default : goal.assert_instr-returns-in_default
assert_instr-returns-in_default t c =
    IfOk-weaker c.copy_leaf.result _ _
    (λ y same. stands_leaf c.args.state c.args.instr.now y c.args.reached c.if-not-reached.false
    (leaf_other c.args.instr.now c.in_default.not-Block c.in_default.not-Loop c.in_default.not-If) same) c.copy_leaf.ensures
