use Rattle.std.proofs.Common.{map, take}
use Rattle.script_reader.specs.Views.{global_of}
use Rattle.script_setup.specs.Tables.{TellsValues}
use Rattle.script_setup.proofs.globals.told_values.Given as goal

abbrev pub invariant-loop-global : goal.invariant-loop-global
invariant-loop-global l = TellsValues l.values (map global_of (take l.global-index l.globals))
