-- What is printed of a script that is played.
use Rattle.std.specs.Prelude.{◌⊎◌, ℕ, List, Option}
use Rattle.vault_port.specs.Files.{Files}
use Rattle.vault_port.specs.declared.whole.PutFault.{PutFault}
use Rattle.event_order.specs.Left.{Counted}
use Rattle.script_command.specs.declared.way.Way.{Way}
use Rattle.script_command.specs.Playing.{Play, detaches_in}
use Rattle.world_hosting.specs.Worlds.{AreBegun, AreEnded, AreTold}

-- The text is the transcript of what is played: a whole run of the protocol world of its programs, from these devices, with their counts
-- of faults, to those.
abbrev pub IsTranscript : {way : Way} {files : Option Files} {name : List ℕ} → Play way files name → (ds ds' : List Counted) → List ℕ → Type 0
IsTranscript play ds ds' text = AreTold play.parts (detaches_in play.whole) ds ds' text

-- .. or the first lines of one, up to the devices that they leave, with their counts where the sink failed. All of its lines but the last
-- one have so many bytes, or all have.
abbrev pub IsBeginning : PutFault → {way : Way} {files : Option Files} {name : List ℕ} → Play way files name → (ds ds' : List Counted) → (least : ℕ) → List ℕ → Type 0
IsBeginning fault play ds ds' least text =
    AreBegun fault play.parts (detaches_in play.whole) ds ds' least text ⊎ AreEnded play.parts (detaches_in play.whole) ds ds' least text
