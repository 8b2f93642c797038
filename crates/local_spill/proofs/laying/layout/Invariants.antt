use Rattle.std.proofs.Common.{◌≡◌, take}
use Rattle.local_spill.specs.Laying.{in_a_row, row_size}
use Rattle.local_spill.proofs.laying.layout.Given as goal

abbrev pub invariant-loop-place : goal.invariant-loop-place
invariant-loop-place l = (l.places.items ≡ in_a_row 0 (take l.place-index l.saved)) × (l.offset ≡ row_size (take l.place-index l.saved))
