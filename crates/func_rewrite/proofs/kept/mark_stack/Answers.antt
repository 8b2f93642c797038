use Rattle.std.proofs.Common.{arith, refl}
use Rattle.func_rewrite.proofs.MarkLemmas.{stack_first, stack_step, stack_end}
use Rattle.func_rewrite.proofs.kept.mark_stack.Goals as goal

pub loop-slot-init : goal.loop-slot-init
loop-slot-init c = stack_first c.args.kept.now c.args.stack.now

pub bounds-kept-slot : goal.bounds-kept-slot
bounds-kept-slot c = let h = c.requires c.loop-slot.slot-index 0 c.loop-slot-test.true in omega (arith, h, c.loop-slot.auto.kept)

pub loop-slot-preserved : goal.loop-slot-preserved
loop-slot-preserved c =
    let h = c.requires c.loop-slot.slot-index 0 c.loop-slot-test.true in
    stack_step c.args.kept.now c.loop-slot.kept c.args.stack.now c.loop-slot.slot-index _ c.loop-slot-test.true refl (omega (arith, h, c.loop-slot.auto.kept)) c.loop-slot.invariant

pub returns : goal.returns
returns c = stack_end c.args.kept.now c.loop-slot.kept c.args.stack.now c.loop-slot.slot-index c.loop-slot-test.false c.loop-slot.invariant
