use Rattle.std.proofs.Common.{take}
use Rattle.script_setup.specs.Tables.{TellsTypes}
use Rattle.script_setup.proofs.globals.types_by_name.Given as goal

abbrev pub invariant-loop-import : goal.invariant-loop-import
invariant-loop-import l = TellsTypes l.found (take l.import-index l.imports)
