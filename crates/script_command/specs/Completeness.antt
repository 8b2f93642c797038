-- How the programs of a script end under `run`.
use Rattle.std.specs.Prelude.{◌≡◌, ℕ, List, Option, Some, None, slice_get}
use Rattle.std.specs.List.{AllZip}
use Rattle.vault_port.specs.Files.{Files}
use Rattle.script_model.specs.Script.{strand_line}
use Rattle.world_model.specs.World.{Actor, Original}
use Rattle.world_laws.specs.Originals.{met}
use Rattle.event_order.specs.Left.{Counted}
use Rattle.script_command.specs.Playing.{Play, detaches_in}
use Rattle.script_command.specs.declared.way.Way.TheVariants.{Run}
use Rattle.world_hosting.specs.Worlds.{AreTold}
use Rattle.world_hosting.specs.Endings.{EndsAs}
use Rattle.world_hosting.specs.OriginalRuns.{Source, StaysOff, originals_for}
use Rattle.script_command.specs.RunOriginals.{IsSource}

-- What is told under `run` of a script without strands has originals, and each program whose original touches no byte of its area, with the outcomes that its calls
-- met, ends as that does. No line tells that its steps were spent where its bound is within them, nor that it broke the protocol or
-- trapped while it rewound; it traps while it unwinds only where the frames take more room than the area has, and does so where that pause is certain.
abbrev pub BoundedProgramsAreWhole : Type 0
BoundedProgramsAreWhole =
    (files : Option Files) (name : List ℕ) (play : Play Run files name) → strand_line play.whole ≡ None
    → (sources : List Source) × AllZip (IsSource files) sources play.parts
    × ((old new : List Counted) (text : List ℕ) (told : AreTold play.parts (detaches_in play.whole) old new text) (number : ℕ) (o : Original) (a : Actor)
    → slice_get (originals_for sources play.parts) number ≡ Some o → slice_get told.world.actors number ≡ Some a → StaysOff o a
    → EndsAs o (met a) number told.lines)
