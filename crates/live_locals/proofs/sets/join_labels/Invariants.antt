use Rattle.std.proofs.Common.{◌≤◌, drop, length}
use Rattle.live_locals.specs.Sets.{told_by, Joined}
use Rattle.live_locals.proofs.sets.join_labels.Given as goal

abbrev pub invariant-loop-left : goal.invariant-loop-left
invariant-loop-left l = (l.left ≤ length l.labels) × Joined (told_by l.tos) (drop l.left l.labels) l.fn.set l.set

abbrev pub decreases-loop-left : goal.decreases-loop-left
decreases-loop-left l = l.left
