use Rattle.std.proofs.Common.{◌≡◌, filter, take, get_or, false}
use Rattle.local_spill.specs.declared.frames.Place.{Place}
use Rattle.func_rewrite.proofs.frames.chosen_frame.Given as goal

abbrev pub invariant-loop-place : goal.invariant-loop-place
invariant-loop-place l = l.places.items ≡ filter (λ (p : Place). get_or l.kept p.local false) (take l.place-index l.fn.frame.places.items)
