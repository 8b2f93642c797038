use Rattle.std.proofs.Common.{◌≡◌}
use Rattle.call_frames.specs.PlainFrames.{calls_with}
use Rattle.live_frames.specs.Digits.{size_in}
use Rattle.live_frames.proofs.digits.digit_calls.Given as goal

abbrev pub invariant-loop-call : goal.invariant-loop-call
invariant-loop-call l = l.calls ≡ calls_with (size_in l.sizes) l.digit 0 l.call
