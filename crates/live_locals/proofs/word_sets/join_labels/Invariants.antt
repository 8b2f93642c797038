use Rattle.std.proofs.Common.{◌≤◌, drop, length}
use Rattle.live_locals.specs.Words.{WordsJoined}
use Rattle.live_locals.proofs.word_sets.join_labels.Given as goal

abbrev pub invariant-loop-left : goal.invariant-loop-left
invariant-loop-left l = (l.left ≤ length l.labels) × WordsJoined l.outer l.inner (drop l.left l.labels) l.fn.set l.set

abbrev pub decreases-loop-left : goal.decreases-loop-left
decreases-loop-left l = l.left
