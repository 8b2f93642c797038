use Rattle.std.proofs.Common.{take}
use Rattle.local_spill.specs.Putting.{Puts}
use Rattle.local_spill.specs.Spilling.{locals_loaded}
use Rattle.local_spill.proofs.putting.put_locals_loaded.Given as goal

abbrev pub invariant-loop-place : goal.invariant-loop-place
invariant-loop-place l = Puts l.fn.out.items l.out.items (locals_loaded l.scratch (take l.place-index l.places))
