use Rattle.std.proofs.Common.{List, ℕ, map, ◌∙◌}
use Rattle.wa_types.specs.declared.syntax.Import.{Import}
use Rattle.wa_types.specs.Modules.{imported_func}
use Rattle.wa_types.specs.Pausing.{joined_name}
use Rattle.script_reader.specs.Views.{bind_of}
use Rattle.script_setup.proofs.Gathered.{filter_all, filter_next}
use Rattle.script_setup.specs.Bindings.{last_device, where_func}
use Rattle.script_setup.specs.Places.{device_at, place_in}
use Rattle.script_setup.proofs.Bound.{same_devices}
use Rattle.script_setup.proofs.binding.bound_imports.Goals as goal

pub loop-import-preserved : goal.loop-import-preserved
loop-import-preserved c =
    filter_next (λ (i : Import). where_func (imported_func i.kind) (device_at (map bind_of c.args.binds.now) (place_in c.args.places.now (joined_name i)))) c.loop-import.list.items
    c.put_bound.new.list.items c.args.imports.now c.loop-import.import-index c.import-item.result c.in_ok-put_bound.ensures c.loop-import-test.true c.import-item.is c.loop-import.invariant

pub returns : goal.returns
returns c = λ tells.
    filter_all (λ (i : Import). where_func (imported_func i.kind) (device_at (map bind_of c.args.binds.now) (place_in c.args.places.now (joined_name i)))) c.loop-import.list.items
    c.args.imports.now c.loop-import.import-index c.loop-import-test.false c.loop-import.invariant
    ∙ same_devices (λ (name : List ℕ). device_at (map bind_of c.args.binds.now) (place_in c.args.places.now name))
    (λ (name : List ℕ). last_device name (map bind_of c.args.binds.now)) c.args.imports.now tells
