use Rattle.std.proofs.Common.{◌≡◌, take, map}
use Rattle.std.specs.List.{filter_map}
use Rattle.wa_types.specs.declared.syntax.Import.{Import}
use Rattle.wa_types.specs.Modules.{imported_global}
use Rattle.validate_bodies.specs.Spaces.{global_type_of}
use Rattle.validate_bodies.proofs.spaces.imported_globals.Given as goal

abbrev pub invariant-loop-import : goal.invariant-loop-import
invariant-loop-import l = map global_type_of l.globals.items ≡ filter_map (λ (i : Import). imported_global i.kind) (take l.import-index l.imports)
