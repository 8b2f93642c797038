use Rattle.std.proofs.Common.{◌≡◌, map, take}
use Rattle.wa_model.specs.declared.flat.Operand.TheVariants.{Local}
use Rattle.slim_rewrite.proofs.branches.operands.Given as goal

abbrev pub invariant-loop-slot : goal.invariant-loop-slot
invariant-loop-slot l = l.out.items ≡ map Local (take l.slot-index l.slots)
