use Rattle.std.proofs.Common.{ap, ◌∙◌}
use Rattle.wa_types.specs.View.{code}
use Rattle.wa_types.proofs.LeafLemmas.{leaf_other}
use Rattle.assert_rewrite.proofs.ReachedLemmas.{same_block, same_if, same_loop}
use Rattle.assert_rewrite.proofs.reached.copy_instr.Goals as goal

pub copy_leaf-requires : goal.copy_leaf-requires
copy_leaf-requires c = leaf_other c.args.instr.now c.in_default.not-Block c.in_default.not-Loop c.in_default.not-If

pub returns-in_ok-copy_body-in-Block : goal.returns-in_ok-copy_body-in-Block
returns-in_ok-copy_body-in-Block c =
    same_block c.args.instr.now c.in-Block.result c.in-Block.body c.in_ok-copy_body-in-Block.field-0 c.in-Block.is (c.in_ok-copy_body-in-Block.ensures ∙ ap code c.deref.ensures.value)

pub returns-in_ok-copy_body-in-Loop : goal.returns-in_ok-copy_body-in-Loop
returns-in_ok-copy_body-in-Loop c =
    same_loop c.args.instr.now c.in-Loop.result c.in-Loop.body c.in_ok-copy_body-in-Loop.field-0 c.in-Loop.is (c.in_ok-copy_body-in-Loop.ensures ∙ ap code c.deref-in-Loop.ensures.value)

pub returns-in_ok-copy_body-in-If-2 : goal.returns-in_ok-copy_body-in-If-2
returns-in_ok-copy_body-in-If-2 c =
    same_if c.args.instr.now c.in-If.result c.in-If.then_arm c.in-If.else_arm c.in_ok-copy_body-in-If.field-0 c.in_ok-copy_body-in-If-2.field-0 c.in-If.is
    (c.in_ok-copy_body-in-If.ensures ∙ ap code c.deref-in-If.ensures.value) (c.in_ok-copy_body-in-If-2.ensures ∙ ap code c.deref-in-If-2.ensures.value)
