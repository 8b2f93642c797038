use Rattle.std.proofs.Common.{take}
use Rattle.run_theory.specs.Flat.{all_got}
use Rattle.flow_rewrite.specs.Putting.{Puts}
use Rattle.flow_rewrite.proofs.put.put_operands.Given as goal

abbrev pub invariant-loop-operand : goal.invariant-loop-operand
invariant-loop-operand l = Puts l.fn.out.items l.out.items (all_got (take l.operand-index l.operands))
