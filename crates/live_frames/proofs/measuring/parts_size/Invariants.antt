use Rattle.std.proofs.Common.{◌≡◌, take}
use Rattle.call_frames.specs.PlainFrames.{weights_size}
use Rattle.live_frames.specs.Rows.{saturated}
use Rattle.live_frames.proofs.WeightSteps.{weights_in}
use Rattle.live_frames.proofs.measuring.parts_size.Given as goal

abbrev pub invariant-loop-part : goal.invariant-loop-part
invariant-loop-part l = l.size ≡ saturated (weights_size (weights_in (take l.part-index l.parts)))
