use Rattle.std.proofs.Common.{◌≡◌, take, false}
use Rattle.std.specs.List.{list_any}
use Rattle.wa_types.specs.Frames.{stands_at}
use Rattle.frame_sizes.specs.Points.{lists_of}
use Rattle.frame_sizes.proofs.slot_pairs.stands.Given as goal

abbrev pub invariant-loop-ops : goal.invariant-loop-ops
invariant-loop-ops l = list_any (stands_at l.height l.ty) (lists_of (take l.ops-index l.points)) ≡ false
