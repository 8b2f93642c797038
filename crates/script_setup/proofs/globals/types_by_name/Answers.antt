use Rattle.script_setup.specs.Tables.{types_in}
use Rattle.script_setup.proofs.GlobalTables.{all_types, next_types}
use Rattle.script_setup.proofs.globals.types_by_name.Goals as goal

pub loop-import-preserved : goal.loop-import-preserved
loop-import-preserved c =
    next_types (types_in c.loop-import.found) (types_in c.put_import.new.found) c.args.imports.now c.loop-import.import-index c.import-item.result c.loop-import-test.true c.import-item.is
    c.loop-import.invariant
    c.in_ok-put_import.ensures

pub returns : goal.returns
returns c = all_types (types_in c.loop-import.found) c.args.imports.now c.loop-import.import-index c.loop-import-test.false c.loop-import.invariant
