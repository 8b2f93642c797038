use Rattle.std.proofs.Common.{◌≡◌, ◌≤◌, ◌+◌, ◌-◌, ◌*◌, get_or, false}
use Rattle.call_frames.specs.CallWords.{bits_from}
use Rattle.live_frames.proofs.words.word_from.Given as goal

abbrev pub invariant-loop-left : goal.invariant-loop-left
invariant-loop-left l = (l.left ≤ 64) × (l.bits ≡ bits_from (λ j. get_or l.fn.told j false) (64 * l.fn.number + l.left) (64 - l.left))

abbrev pub decreases-loop-left : goal.decreases-loop-left
decreases-loop-left l = l.left
