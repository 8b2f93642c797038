use Rattle.std.proofs.Common.{◌≡◌, ◌++◌, map, take}
use Rattle.wa_types.specs.declared.syntax.GlobalDef.{GlobalDef}
use Rattle.wa_types.specs.Modules.{imported, imported_global}
use Rattle.wa_types.specs.Typing.{GlobalType}
use Rattle.wa_types.specs.View.{module_of}
use Rattle.pause_host.proofs.globals.mutables_of.Given as goal

abbrev pub invariant-loop-global : goal.invariant-loop-global
invariant-loop-global l =
    l.mutables.items
    ≡ map (λ (g : GlobalType). g.mutable) (imported imported_global (module_of l.«module»)) ++ map (λ (g : GlobalDef). g.mutable) (take l.global-index l.«module».globals.items)
