use Rattle.std.proofs.Common.{◌≡◌, ◌++◌, map, take}
use Rattle.world_hosting.specs.Parted.{show_at}
use Rattle.world_hosting.proofs.parting.put_shows.Given as goal

abbrev pub invariant-loop-text : goal.invariant-loop-text
invariant-loop-text l = l.shows.items ≡ l.fn.shows.items ++ map (show_at l.program) (take l.text-index l.texts)
