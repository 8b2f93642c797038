use Rattle.std.proofs.Common.{◌≡◌, ◌≤◌, ◌*◌, take}
use Rattle.std.specs.List.{sum_by}
use Rattle.wa_types.specs.Frames.{width, Place as PlainPlace}
use Rattle.frame_sizes.specs.Frames.{places_of}
use Rattle.frame_sizes.proofs.frames.widths.Given as goal

abbrev pub invariant-loop-place : goal.invariant-loop-place
invariant-loop-place l = (l.sum ≡ sum_by (λ (p : PlainPlace). width p.ty) (places_of (take l.place-index l.places))) × (l.sum ≤ 8 * l.place-index)
