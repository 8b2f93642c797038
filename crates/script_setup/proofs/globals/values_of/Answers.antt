use Rattle.std.proofs.Common.{List, ℕ, ◌∙◌}
use Rattle.wa_types.specs.declared.syntax.Import.{Import}
use Rattle.wa_types.specs.Modules.{imported_global}
use Rattle.wa_types.specs.Pausing.{joined_name}
use Rattle.script_setup.specs.SetUpRules.{last_value, value_or_zero}
use Rattle.script_setup.specs.Tables.{value_in}
use Rattle.script_setup.proofs.Gathered.{filter_all, filter_next}
use Rattle.script_setup.proofs.GlobalTables.{same_values}
use Rattle.script_setup.proofs.globals.values_of.Goals as goal

pub loop-import-preserved : goal.loop-import-preserved
loop-import-preserved c =
    filter_next (λ (i : Import). value_or_zero (imported_global i.kind) (value_in c.args.values.now (joined_name i))) c.loop-import.list.items c.put_global.new.list.items c.args.imports.now
    c.loop-import.import-index c.import-item.result
    c.in_ok-put_global.ensures c.loop-import-test.true c.import-item.is c.loop-import.invariant

pub returns : goal.returns
returns c = λ globals tells.
    filter_all (λ (i : Import). value_or_zero (imported_global i.kind) (value_in c.args.values.now (joined_name i))) c.loop-import.list.items c.args.imports.now c.loop-import.import-index
    c.loop-import-test.false c.loop-import.invariant
    ∙ same_values (value_in c.args.values.now) (λ (name : List ℕ). last_value name globals) c.args.imports.now tells
