use Rattle.std.proofs.Common.{◌≡◌, ◌++◌, map, drop}
use Rattle.strand_host.specs.StrandSetups.{area_of}
use Rattle.strand_host.proofs.setup.areas.Given as goal

abbrev pub invariant-loop-part : goal.invariant-loop-part
invariant-loop-part l = map area_of l.parts ≡ l.areas.items ++ map area_of (drop l.part-index l.parts)
