use Rattle.std.proofs.Common.{ap, arith, ◌∙◌}
use Rattle.std.proofs.lemmas.Result.{IfOk-weaker}
use Rattle.wa_types.specs.View.{code}
use Rattle.wa_types.proofs.LeafLemmas.{leaf_other}
use Rattle.guard_form.specs.Asserts.{asserted}
use Rattle.assert_rewrite.specs.Testing.{without_number}
use Rattle.assert_rewrite.proofs.TestLemmas.{free_end, free_leaf, free_start, free_step, frees_block, frees_if, frees_loop}
use Rattle.assert_rewrite.proofs.written.+free.Goals as goal

pub assert_free-loop-instr-init : goal.assert_free-loop-instr-init
assert_free-loop-instr-init t c =
    free_start (without_number c.args.which.now c.args.listed.now c.args.ignore_indirect) c.args.state c.new-out.result.items c.args.body.now c.new-out.ensures.items

pub assert_free-loop-instr-preserved : goal.assert_free-loop-instr-preserved
assert_free-loop-instr-preserved t c =
    free_step (without_number c.args.which.now c.args.listed.now c.args.ignore_indirect) c.args.state c.loop-instr.out.items c.push.new.self.items c.put_where.new.out.items c.args.body.now
    c.loop-instr.instr-index c.instr-item.result c.in_ok-free_instr.field-0 c.is_free-wanted.result _ c.in_ok-push.ensures.items c.in_ok-free_instr.ensures c.in_ok-put_where.ensures
    c.is_free-wanted.ensures (omega (arith, c.loop-instr-test.true)) c.instr-item.is c.loop-instr.invariant

pub assert_free-returns : goal.assert_free-returns
assert_free-returns t c =
    free_end (without_number c.args.which.now c.args.listed.now c.args.ignore_indirect) c.args.state c.loop-instr.out.items c.args.body.now c.loop-instr.instr-index _
    (omega (arith, c.loop-instr-test.false)) c.loop-instr.invariant

pub free_instr-copy_leaf-requires : goal.free_instr-copy_leaf-requires
free_instr-copy_leaf-requires t c = leaf_other c.args.instr.now c.in_default.not-Block c.in_default.not-Loop c.in_default.not-If

pub free_instr-returns-in_ok-assert_free-in-Block : goal.free_instr-returns-in_ok-assert_free-in-Block
free_instr-returns-in_ok-assert_free-in-Block t c =
    frees_block (without_number c.args.which.now c.args.listed.now c.args.ignore_indirect) c.args.state c.args.instr.now c.in-Block.result c.in-Block.body c.in_ok-assert_free-in-Block.field-0
    c.in-Block.is
    (c.in_ok-assert_free-in-Block.ensures ∙ ap (λ xs. asserted (without_number c.args.which.now c.args.listed.now c.args.ignore_indirect) c.args.state (code xs)) c.deref.ensures.value)

pub free_instr-returns-in_ok-assert_free-in-Loop : goal.free_instr-returns-in_ok-assert_free-in-Loop
free_instr-returns-in_ok-assert_free-in-Loop t c =
    frees_loop (without_number c.args.which.now c.args.listed.now c.args.ignore_indirect) c.args.state c.args.instr.now c.in-Loop.result c.in-Loop.body c.in_ok-assert_free-in-Loop.field-0
    c.in-Loop.is
    (c.in_ok-assert_free-in-Loop.ensures ∙ ap (λ xs. asserted (without_number c.args.which.now c.args.listed.now c.args.ignore_indirect) c.args.state (code xs)) c.deref-in-Loop.ensures.value)

pub free_instr-returns-in_ok-assert_free-in-If-2 : goal.free_instr-returns-in_ok-assert_free-in-If-2
free_instr-returns-in_ok-assert_free-in-If-2 t c =
    frees_if (without_number c.args.which.now c.args.listed.now c.args.ignore_indirect) c.args.state c.args.instr.now c.in-If.result c.in-If.then_arm c.in-If.else_arm
    c.in_ok-assert_free-in-If.field-0 c.in_ok-assert_free-in-If-2.field-0 c.in-If.is
    (c.in_ok-assert_free-in-If.ensures ∙ ap (λ xs. asserted (without_number c.args.which.now c.args.listed.now c.args.ignore_indirect) c.args.state (code xs)) c.deref-in-If.ensures.value)
    (c.in_ok-assert_free-in-If-2.ensures ∙ ap (λ xs. asserted (without_number c.args.which.now c.args.listed.now c.args.ignore_indirect) c.args.state (code xs)) c.deref-in-If-2.ensures.value)

pub free_instr-returns-in_default : goal.free_instr-returns-in_default
free_instr-returns-in_default t c =
    IfOk-weaker c.copy_leaf.result _ _
    (λ y same. free_leaf (without_number c.args.which.now c.args.listed.now c.args.ignore_indirect) c.args.state c.args.instr.now y
    (leaf_other c.args.instr.now c.in_default.not-Block c.in_default.not-Loop c.in_default.not-If) same) c.copy_leaf.ensures
