use Rattle.std.proofs.Common.{take}
use Rattle.call_frames.specs.PlainFrames.{weights_added}
use Rattle.local_spill.specs.Putting.{Puts}
use Rattle.live_frames.proofs.WeightSteps.{weights_in}
use Rattle.live_frames.proofs.sizing.put_sizes_added.Given as goal

abbrev pub invariant-loop-part : goal.invariant-loop-part
invariant-loop-part l = Puts l.fn.out.items l.out.items (weights_added l.index (weights_in (take l.part-index l.parts)))
