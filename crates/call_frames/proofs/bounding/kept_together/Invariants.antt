use Rattle.std.proofs.Common.{◌≤◌, take}
use Rattle.call_frames.specs.Classes.{calls_total}
use Rattle.call_frames.proofs.bounding.kept_together.Given as goal

abbrev pub invariant-loop-local : goal.invariant-loop-local
invariant-loop-local l = l.total ≤ calls_total (take l.local l.keepers)
