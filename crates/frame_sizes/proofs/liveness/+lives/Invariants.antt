use Rattle.std.proofs.Common.{◌≡◌, ◌≤◌, ◌++◌, length, drop, reverse}
use Rattle.wa_types.specs.View.{code}
use Rattle.wa_types.specs.Liveness.{live}
use Rattle.frame_sizes.specs.Lives.{lives}
use Rattle.frame_sizes.proofs.liveness.+lives.Given as goal

abbrev pub invariant-put_lives-loop-left : goal.invariant-put_lives-loop-left
invariant-put_lives-loop-left l =
    (l.left ≤ length l.body) × (l.told ≡ live l.local l.tos l.fn.out (code (drop l.left l.body)))
    × (l.found.items ≡ l.fn.found.items ++ reverse (lives l.local l.tos l.fn.out (code (drop l.left l.body))))

abbrev pub decreases-put_lives-loop-left : goal.decreases-put_lives-loop-left
decreases-put_lives-loop-left l = l.left
