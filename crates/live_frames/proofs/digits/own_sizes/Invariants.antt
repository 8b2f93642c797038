use Rattle.std.proofs.Common.{◌≡◌, ◌+◌, length, take}
use Rattle.call_frames.specs.PlainFrames.{weight_at}
use Rattle.live_frames.specs.Ends.{Added}
use Rattle.live_frames.proofs.WeightSteps.{weights_in}
use Rattle.live_frames.proofs.digits.own_sizes.Given as goal

abbrev pub invariant-loop-number : goal.invariant-loop-number
invariant-loop-number l =
    (length l.sizes.items ≡ l.end) × (length l.ends.items ≡ l.end + 1) × Added (λ k. weight_at k (weights_in (take l.number l.parts))) l.number l.sizes.items l.ends.items
