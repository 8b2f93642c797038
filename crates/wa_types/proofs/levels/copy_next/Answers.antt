use Rattle.std.proofs.lemmas.Result.{on_ok_weaker}
use Rattle.wa_types.proofs.LeafLemmas.{leaf_other}
use Rattle.wa_types.proofs.LevelLemmas.{opening_block, opening_loop, opening_if, putting}
use Rattle.wa_types.proofs.levels.copy_next.Goals as goal

pub copy_one-requires : goal.copy_one-requires
copy_one-requires c = leaf_other c.args.instr.now c.in_default.not-Block c.in_default.not-Loop c.in_default.not-If

pub returns-in-Block : goal.returns-in-Block
returns-in-Block c =
    on_ok_weaker c.enter.result
    (opening_block c.args.copying.now c.enter.new.copying c.args.instr.now c.in-Block.result c.in-Block.body c.deref.result.now c.in-Block.is c.deref.ensures.value)
    c.enter.ensures

pub returns-in-Loop : goal.returns-in-Loop
returns-in-Loop c =
    on_ok_weaker c.enter-in-Loop.result
    (opening_loop c.args.copying.now c.enter-in-Loop.new.copying c.args.instr.now c.in-Loop.result c.in-Loop.body c.deref-in-Loop.result.now c.in-Loop.is c.deref-in-Loop.ensures.value)
    c.enter-in-Loop.ensures

pub returns-in-If : goal.returns-in-If
returns-in-If c =
    on_ok_weaker c.enter-in-If.result
    (opening_if c.args.copying.now c.enter-in-If.new.copying c.args.instr.now c.in-If.result c.in-If.then_arm c.in-If.else_arm c.deref-in-If-2.result.now c.deref-in-If.result c.in-If.is
    c.deref-in-If-2.ensures.value c.deref-in-If.ensures.value) c.enter-in-If.ensures

pub returns-in_default : goal.returns-in_default
returns-in_default c =
    on_ok_weaker c.copy_one.result (putting c.args.copying.now c.copy_one.new.copying c.args.instr.now c.copy_one.ensures.levels c.copy_one.ensures.left) c.copy_one.ensures.made
