use Rattle.std.proofs.Common.{◌≡◌, ◌≤◌, length, drop}
use Rattle.wa_types.specs.View.{code}
use Rattle.wa_types.specs.Liveness.{live}
use Rattle.frame_sizes.proofs.liveness.+live.Given as goal

abbrev pub invariant-is_live-loop-left : goal.invariant-is_live-loop-left
invariant-is_live-loop-left l = (l.left ≤ length l.body) × (l.told ≡ live l.local l.tos l.fn.out (code (drop l.left l.body)))

abbrev pub decreases-is_live-loop-left : goal.decreases-is_live-loop-left
decreases-is_live-loop-left l = l.left
