use Rattle.std.proofs.Common.{map, take}
use Rattle.script_reader.specs.Views.{bind_of}
use Rattle.script_setup.specs.Places.{TellsDevices}
use Rattle.script_setup.proofs.binding.places_by_name.Given as goal

abbrev pub invariant-loop-place : goal.invariant-loop-place
invariant-loop-place l = TellsDevices l.places (map bind_of l.binds) (map bind_of (take l.place l.binds))
