use Rattle.std.proofs.Common.{◌≡◌, ◌≤◌, take}
use Rattle.call_frames.specs.PlainFrames.{weights_end}
use Rattle.live_frames.proofs.WeightSteps.{weights_in}
use Rattle.live_frames.proofs.digits.parts_end.Given as goal

abbrev pub invariant-loop-part : goal.invariant-loop-part
invariant-loop-part l = (l.end ≡ weights_end (weights_in (take l.part-index l.parts))) × (l.end ≤ 4294967296)
