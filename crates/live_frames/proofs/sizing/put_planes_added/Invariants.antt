use Rattle.std.proofs.Common.{take}
use Rattle.call_frames.specs.PlainFrames.{weights_added}
use Rattle.local_spill.specs.Putting.{Puts}
use Rattle.live_frames.specs.Digits.{plane_views}
use Rattle.live_frames.proofs.sizing.put_planes_added.Given as goal

abbrev pub invariant-loop-plane : goal.invariant-loop-plane
invariant-loop-plane l = Puts l.fn.out.items l.out.items (weights_added l.index (plane_views (take l.plane-index l.planes)))
