use Rattle.std.proofs.Common.{◌≡◌, take}
use Rattle.call_frames.specs.PlainFrames.{weights_size}
use Rattle.live_frames.specs.Digits.{plane_views}
use Rattle.live_frames.specs.Rows.{saturated}
use Rattle.live_frames.proofs.measuring.planes_size.Given as goal

abbrev pub invariant-loop-plane : goal.invariant-loop-plane
invariant-loop-plane l = l.size ≡ saturated (weights_size (plane_views (take l.plane-index l.planes)))
