use Rattle.std.proofs.Common.{arith}
use Rattle.call_frames.specs.Views.{part_views}
use Rattle.call_frames.proofs.ChoiceLemmas.{cost_short}
use Rattle.call_frames.proofs.measuring.are_short.Goals as goal

pub cost_of-requires : goal.cost_of-requires
cost_of-requires c = let s = cost_short (part_views c.args.groups.now) in omega (arith, s, c.requires)
