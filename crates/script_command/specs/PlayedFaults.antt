-- Faults of devices that the lines of a played script tell.
use Rattle.std.specs.Prelude.{ℕ, List, Option}
use Rattle.std.specs.List.{AllZip}
use Rattle.vault_port.specs.Files.{Files}
use Rattle.event_order.specs.Left.{Counted}
use Rattle.script_command.specs.Playing.{Play, detaches_in}
use Rattle.script_command.specs.declared.way.Way.{Way}
use Rattle.world_hosting.specs.Worlds.{AreTold, world_programs}
use Rattle.world_hosting.specs.FaultCounts.{CountsTo, with_told}

-- Of what is told to the end of a script without strands, under `host` and under `run`: the count of each device that is left is at least its old one and the number
-- of lines `end device fault` of calls to it, or stands at the greatest u64.
abbrev pub PlayedFaultsAreCounted : Type 0
PlayedFaultsAreCounted =
    (way : Way) (files : Option Files) (name : List ℕ) (play : Play way files name) (old new : List Counted) (text : List ℕ)
    (told : AreTold play.parts (detaches_in play.whole) old new text)
    → AllZip CountsTo (with_told (world_programs play.parts) (detaches_in play.whole) 0 0 told.lines old) new
