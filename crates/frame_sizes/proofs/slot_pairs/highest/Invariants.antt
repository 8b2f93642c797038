use Rattle.std.proofs.Common.{◌≡◌, ◌<◌, ◌^◌, take}
use Rattle.wa_types.specs.Frames.{greatest}
use Rattle.frame_sizes.specs.Points.{lists_of}
use Rattle.frame_sizes.proofs.slot_pairs.highest.Given as goal

abbrev pub invariant-loop-ops : goal.invariant-loop-ops
invariant-loop-ops l = (l.most ≡ greatest (lists_of (take l.ops-index l.points))) × (l.most < 2 ^ 63)
