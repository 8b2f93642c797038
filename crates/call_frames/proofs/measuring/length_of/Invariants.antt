use Rattle.std.proofs.Common.{◌≡◌, take}
use Rattle.call_frames.specs.CallParts.{parts_length}
use Rattle.call_frames.specs.Views.{part_views}
use Rattle.call_frames.proofs.measuring.length_of.Given as goal

abbrev pub invariant-loop-part : goal.invariant-loop-part
invariant-loop-part l = l.length ≡ parts_length (part_views (take l.part-index l.parts))
