use Rattle.std.proofs.Common.{◌≡◌, map, take}
use Rattle.std.specs.List.{filter_map}
use Rattle.wa_types.specs.declared.syntax.Import.{Import}
use Rattle.wa_types.specs.Modules.{imported_global}
use Rattle.wa_types.specs.Typing.{GlobalType}
use Rattle.pause_host.proofs.globals.imported_mutables.Given as goal

abbrev pub invariant-loop-import : goal.invariant-loop-import
invariant-loop-import l = l.mutables.items ≡ map (λ (g : GlobalType). g.mutable) (filter_map (λ (i : Import). imported_global i.kind) (take l.import-index l.«module».imports.items))
