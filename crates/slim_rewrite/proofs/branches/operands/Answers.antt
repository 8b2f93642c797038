use Rattle.std.proofs.Common.{ap, map, ◌∙◌, arith}
use Rattle.std.proofs.lemmas.List.{take_all}
use Rattle.wa_model.specs.declared.flat.Operand.TheVariants.{Local}
use Rattle.slim_rewrite.proofs.BranchLemmas.{operands_next}
use Rattle.slim_rewrite.proofs.branches.operands.Goals as goal

pub loop-slot-init : goal.loop-slot-init
loop-slot-init c = c.in_ok-out.ensures.items

pub loop-slot-preserved : goal.loop-slot-preserved
loop-slot-preserved c = operands_next c.args.slots.now c.loop-slot.slot-index _ c.loop-slot.out.items c.push.new.self.items (let h = c.loop-slot-test.true in omega arith) c.loop-slot.invariant
    c.in_ok-push.ensures.items

pub returns : goal.returns
returns c = c.loop-slot.invariant ∙ ap (map Local) (take_all c.loop-slot.slot-index c.args.slots.now (let h = c.loop-slot-test.false in omega arith))
