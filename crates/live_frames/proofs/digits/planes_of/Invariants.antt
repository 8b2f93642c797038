use Rattle.std.proofs.Common.{◌≡◌, length}
use Rattle.call_frames.specs.PlainFrames.{planes}
use Rattle.live_frames.specs.Digits.{plane_views, size_in}
use Rattle.live_frames.proofs.digits.planes_of.Given as goal

abbrev pub invariant-loop-digit : goal.invariant-loop-digit
invariant-loop-digit l = plane_views l.planes.items ≡ planes (size_in l.sizes) (length l.sizes) 0 l.digit
