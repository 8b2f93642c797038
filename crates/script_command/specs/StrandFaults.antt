-- Faults of devices that the lines of strands tell, and what the devices count.
use Rattle.std.specs.Prelude.{List, map}
use Rattle.std.specs.List.{AllZip}
use Rattle.wa_model.specs.declared.answers.Detach.{Detach}
use Rattle.event_order.specs.Left.{Counted}
use Rattle.strand_laws.specs.StrandWorld.{StrandLine, StrandsInWorld}
use Rattle.script_command.specs.StrandTranscripts.{program_line}
use Rattle.world_hosting.specs.FaultCounts.{CountsTo, with_told}
use Rattle.script_command.specs.StrandLogs.{asking}

-- The count of each device that these lines leave is at least its old one and the number of lines `end device fault` of calls to it, whichever
-- strands made them, or stands at the greatest u64.
abbrev pub AreStrandFaultsCounted : List StrandsInWorld → List Detach → List StrandLine → (old new : List Counted) → Type 0
AreStrandFaultsCounted gs detaches lines old new = AllZip CountsTo (with_told (map asking gs) detaches 0 0 (map program_line lines) old) new
