-- What each device has answered in a run of programs with strands.
use Rattle.std.specs.Prelude.{[], List, map}
use Rattle.wa_model.specs.declared.answers.Detach.{Detach}
use Rattle.wa_model.specs.Plan.{Outcome}
use Rattle.world_model.specs.World.{Device, Program}
use Rattle.strand_laws.specs.Strands.{strand_at}
use Rattle.strand_laws.specs.StrandWorld.{StrandLine, StrandsInWorld, strand_program}
use Rattle.script_command.specs.StrandTranscripts.{program_line}
use Rattle.world_hosting.specs.DeviceLogs.{AreLogged}

-- a program with strands as its calls ask devices: all strands have one module and one binding of its imports, those of the first
abbrev pub asking : StrandsInWorld → Program
asking g = strand_program g [] 0 (strand_at g.program 0)

-- The devices that these lines leave are those that were there, in order, each with its log behind its journal: the answered calls of all strands.
abbrev pub AreStrandsLogged : List StrandsInWorld → List Detach → List StrandLine → (met : List (List Outcome)) → (ds ds' : List Device) → Type 0
AreStrandsLogged gs detaches lines met ds ds' = AreLogged (map asking gs) detaches (map program_line lines) met ds ds'
