use Rattle.std.proofs.Common.{◌≡◌, ◌+◌, map, take}
use Rattle.std.specs.List.{sum_by}
use Rattle.wa_types.specs.View.{module_of}
use Rattle.wa_types.specs.Frames.{frame_of}
use Rattle.call_graph.specs.Settings.{policy_of}
use Rattle.frame_sizes.specs.Frames.{suspended_of}
use Rattle.frame_sizes.proofs.frames.room.Given as goal

abbrev pub invariant-loop-activation : goal.invariant-loop-activation
invariant-loop-activation l = l.size ≡ 8 + sum_by (frame_of (module_of l.valid) (policy_of l.policy)) (map suspended_of (take l.activation-index l.stack))
