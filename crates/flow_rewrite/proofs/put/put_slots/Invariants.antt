use Rattle.std.proofs.Common.{take}
use Rattle.run_theory.specs.Flat.{slots_got}
use Rattle.flow_rewrite.specs.Putting.{Puts}
use Rattle.flow_rewrite.proofs.put.put_slots.Given as goal

abbrev pub invariant-loop-slot : goal.invariant-loop-slot
invariant-loop-slot l = Puts l.fn.out.items l.out.items (slots_got (take l.slot-index l.slots))
