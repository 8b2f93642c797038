use Rattle.std.proofs.Common.{◌≡◌, ◌++◌, take, map}
use Rattle.std.specs.List.{filter_map}
use Rattle.wa_types.specs.declared.syntax.Import.{Import}
use Rattle.wa_types.specs.declared.syntax.GlobalDef.{GlobalDef}
use Rattle.wa_types.specs.Modules.{imported_global, global_type}
use Rattle.wa_types.specs.View.{global_of}
use Rattle.validate_bodies.specs.Spaces.{global_type_of}
use Rattle.validate_bodies.proofs.spaces.all_globals.Given as goal

abbrev pub invariant-loop-global : goal.invariant-loop-global
invariant-loop-global l = map global_type_of l.all.items ≡ filter_map (λ (i : Import). imported_global i.kind) l.imports
    ++ map (λ (g : GlobalDef). global_type (global_of g)) (take l.global-index l.globals)
