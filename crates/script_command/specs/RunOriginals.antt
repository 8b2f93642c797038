-- What `run` tells of a script's programs, as a run of their originals.
use Rattle.std.specs.Prelude.{◌≡◌, ℕ, List, [], ◌∷◌, length, Option, Some, None}
use Rattle.std.specs.List.{AllZip}
use Rattle.vault_port.specs.Files.{Files}
use Rattle.script_model.specs.Script.{strand_line}
use Rattle.script_model.specs.Transcript.{Names, Transcript}
use Rattle.world_model.specs.World.{BlockingWorld}
use Rattle.event_order.specs.Left.{Counted}
use Rattle.many_host.specs.Calls.{devices_of}
use Rattle.transform_command.specs.Sources.{IsValidSource}
use Rattle.wasm_reader.specs.Held.{Holds}
use Rattle.script_setup.specs.SetUpRules.{program_names}
use Rattle.script_command.specs.Playing.{Play, detaches_in, settings_for}
use Rattle.script_command.specs.declared.way.Way.TheVariants.{Run}
use Rattle.world_hosting.specs.Worlds.{AreTold, Part, turn_count}
use Rattle.world_hosting.specs.OriginalRuns.{Source, StaysOff, originals_for}

-- The program's file spells this valid module, and these are the settings of its lines.
pub record IsSource (files : Option Files) (x : Source) (y : Part) : Type 0 where
  pub bytes : List ℕ
  pub holds : Holds files y.text.path bytes
  pub source : IsValidSource bytes x.original
  pub settings_are : settings_for y.text ≡ Some x.settings

-- the names in the lines of the originals, in order
abbrev pub original_names : List Source → List Part → List Names
original_names [] ys = []
original_names (x ∷ xs) [] = []
original_names (x ∷ xs) (y ∷ ys) = program_names x.original y.text ∷ original_names xs ys

-- What is told under `run` of a script without strands has originals: where each touches no byte of its area with the outcomes that its calls met, the lines are
-- those of a run of their blocking world, with the same devices, and the text is its transcript, with the originals' own names.
abbrev pub RunsAreOfOriginals : Type 0
RunsAreOfOriginals =
    (files : Option Files) (name : List ℕ) (play : Play Run files name) → strand_line play.whole ≡ None
    → (sources : List Source) × AllZip (IsSource files) sources play.parts
    × ((old new : List Counted) (text : List ℕ) (told : AreTold play.parts (detaches_in play.whole) old new text)
    → AllZip StaysOff (originals_for sources play.parts) told.world.actors
    → BlockingWorld (originals_for sources play.parts) (detaches_in play.whole) (devices_of old) told.lines (devices_of new)
    × (text ≡ Transcript (original_names sources play.parts) (length sources) (turn_count told.lines) told.lines))
