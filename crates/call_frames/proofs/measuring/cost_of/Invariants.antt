use Rattle.std.proofs.Common.{◌≡◌, take}
use Rattle.call_frames.specs.PlainLaws.{tests_cost}
use Rattle.call_frames.specs.Views.{part_views}
use Rattle.call_frames.proofs.measuring.cost_of.Given as goal

abbrev pub invariant-loop-part : goal.invariant-loop-part
invariant-loop-part l = l.cost ≡ tests_cost (part_views (take l.part-index l.parts))
