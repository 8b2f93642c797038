use Rattle.std.proofs.Common.{◌≡◌, map, take}
use Rattle.std.specs.List.{filter_map}
use Rattle.wa_types.specs.declared.syntax.Import.{Import}
use Rattle.wa_types.specs.Modules.{imported_func}
use Rattle.wa_types.specs.Pausing.{joined_name}
use Rattle.script_reader.specs.Views.{bind_of}
use Rattle.script_setup.specs.Bindings.{where_func}
use Rattle.script_setup.specs.Places.{device_at, place_in}
use Rattle.script_setup.proofs.binding.bound_imports.Given as goal

abbrev pub invariant-loop-import : goal.invariant-loop-import
invariant-loop-import l =
    l.list.items ≡ filter_map (λ (i : Import). where_func (imported_func i.kind) (device_at (map bind_of l.binds) (place_in l.places (joined_name i)))) (take l.import-index l.imports)
