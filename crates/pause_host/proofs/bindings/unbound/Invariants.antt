use Rattle.std.proofs.Common.{◌≡◌, map, take, None}
use Rattle.std.specs.List.{filter_map}
use Rattle.wa_types.specs.declared.syntax.Import.{Import}
use Rattle.wa_types.specs.Modules.{imported_func}
use Rattle.pause_host.proofs.bindings.unbound.Given as goal

abbrev pub invariant-loop-import : goal.invariant-loop-import
invariant-loop-import l = l.binds.items ≡ map (λ sort. None) (filter_map (λ (i : Import). imported_func i.kind) (take l.import-index l.«module».imports.items))
