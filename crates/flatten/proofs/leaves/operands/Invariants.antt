use Rattle.std.proofs.Common.{◌≡◌, map, take}
use Rattle.wa_model.specs.declared.flat.Operand.TheVariants.{Local}
use Rattle.flatten.proofs.leaves.operands.Given as goal

abbrev pub invariant-loop-local : goal.invariant-loop-local
invariant-loop-local l = l.operands.items ≡ map Local (take l.local-index l.fn.locals)
