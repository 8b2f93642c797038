use Rattle.wa_types.specs.declared.syntax.Import.{Import}
use Rattle.wa_types.specs.Modules.{imported_func}
use Rattle.wa_types.specs.Pausing.{joined_name}
use Rattle.world_model.specs.World.{name_if}
use Rattle.script_setup.proofs.Gathered.{filter_all, filter_next}
use Rattle.script_setup.proofs.names.import_names.Goals as goal

pub loop-import-preserved : goal.loop-import-preserved
loop-import-preserved c =
    filter_next (λ (i : Import). name_if (joined_name i) (imported_func i.kind)) c.loop-import.names.items c.put_import.new.names.items c.args.imports.now c.loop-import.import-index
    c.import-item.result
    c.in_ok-put_import.ensures c.loop-import-test.true c.import-item.is c.loop-import.invariant

pub returns : goal.returns
returns c =
    filter_all (λ (i : Import). name_if (joined_name i) (imported_func i.kind)) c.loop-import.names.items c.args.imports.now c.loop-import.import-index c.loop-import-test.false c.loop-import.invariant
