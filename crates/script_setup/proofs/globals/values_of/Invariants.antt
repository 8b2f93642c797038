use Rattle.std.proofs.Common.{◌≡◌, take}
use Rattle.std.specs.List.{filter_map}
use Rattle.wa_types.specs.declared.syntax.Import.{Import}
use Rattle.wa_types.specs.Modules.{imported_global}
use Rattle.wa_types.specs.Pausing.{joined_name}
use Rattle.script_setup.specs.SetUpRules.{value_or_zero}
use Rattle.script_setup.specs.Tables.{value_in}
use Rattle.script_setup.proofs.globals.values_of.Given as goal

abbrev pub invariant-loop-import : goal.invariant-loop-import
invariant-loop-import l = l.list.items ≡ filter_map (λ (i : Import). value_or_zero (imported_global i.kind) (value_in l.values (joined_name i))) (take l.import-index l.imports)
