use Rattle.std.proofs.Common.{◌≡◌, [], ◌∷◌, map, take}
use Rattle.script_reader.specs.Views.{strand_of}
use Rattle.script_setup.specs.SetUpRules.{overlap_line}
use Rattle.script_setup.specs.Views.{earlier_areas}
use Rattle.script_setup.proofs.StrandLoops.{strands_left}
use Rattle.script_setup.proofs.areas.overlap_line.Given as goal

abbrev pub invariant-loop-place : goal.invariant-loop-place
invariant-loop-place l = overlap_line (l.own ∷ []) (map strand_of l.strands) ≡ overlap_line (l.own ∷ earlier_areas (take l.place l.strands)) (strands_left l.strands l.place)
