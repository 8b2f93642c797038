use Rattle.std.proofs.Common.{◌≡◌, ◌++◌, map, take}
use Rattle.script_command.specs.StrandParts.{range_at}
use Rattle.script_command.proofs.strand_parting.put_ranges.Given as goal

abbrev pub invariant-loop-range : goal.invariant-loop-range
invariant-loop-range l = l.shows.items ≡ l.fn.shows.items ++ map (range_at l.program) (take l.range-index l.ranges)
