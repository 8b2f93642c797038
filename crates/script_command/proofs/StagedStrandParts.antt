-- Programs with strands that are staged one after another, over the parts of a script.
use Rattle.std.proofs.Common.{List, [], ◌∷◌, map}
use Rattle.std.specs.List.{AllZip}
use Rattle.script_command.specs.declared.strand_starts.StagedStrands.{StagedStrands}
use Rattle.script_command.specs.StrandStages.{AreStrandsStaged, IsStrandsStaged}
use Rattle.world_hosting.specs.Worlds.{Part}
use Rattle.script_command.specs.StrandTold.{named_strands}

-- what is staged of a part of a script, with all its strands
abbrev pub IsStagedPart : Part → StagedStrands → Type 0
IsStagedPart x s = IsStrandsStaged (named_strands x) s

pub parts_staged : (parts : List Part) (staged : List StagedStrands) → AllZip IsStagedPart parts staged → AreStrandsStaged (map named_strands parts) staged
parts_staged [] [] h = h
parts_staged [] (s ∷ ss) h = absurd h
parts_staged (x ∷ xs) [] h = absurd h
parts_staged (x ∷ xs) (s ∷ ss) h = (h.0, parts_staged xs ss h.1)

pub staged_parts : (parts : List Part) (staged : List StagedStrands) → AreStrandsStaged (map named_strands parts) staged → AllZip IsStagedPart parts staged
staged_parts [] [] h = h
staged_parts [] (s ∷ ss) h = absurd h
staged_parts (x ∷ xs) [] h = absurd h
staged_parts (x ∷ xs) (s ∷ ss) h = (h.0, staged_parts xs ss h.1)
