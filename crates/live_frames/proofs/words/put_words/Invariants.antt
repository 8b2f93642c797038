use Rattle.std.proofs.Common.{◌≡◌, ◌+◌}
use Rattle.call_frames.specs.PlainFrames.{words_behind}
use Rattle.live_frames.proofs.WordSteps.{OwesWords}
use Rattle.live_frames.proofs.words.put_words.Given as goal

abbrev pub invariant-loop-left : goal.invariant-loop-left
invariant-loop-left l = (l.word + l.left ≡ words_behind l.calls + 1) × OwesWords l.fn.out.items l.out.items l.index l.calls l.word l.left

abbrev pub decreases-loop-left : goal.decreases-loop-left
decreases-loop-left l = l.left
