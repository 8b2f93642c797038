use Rattle.std.proofs.Common.{◌++◌, ◌≤◌, length, map, ap, ◌∙◌, subst}
use Rattle.std.proofs.lemmas.List.{take_all}
use Rattle.wa_types.specs.declared.syntax.GlobalDef.{GlobalDef}
use Rattle.wa_types.specs.Modules.{imported, imported_global}
use Rattle.wa_types.specs.Typing.{GlobalType}
use Rattle.wa_types.specs.View.{module_of}
use Rattle.pause_host.proofs.Constants.{mutables_are}
use Rattle.pause_host.proofs.globals.mutables_of.Goals as goal

pub returns : goal.returns
returns c =
    let globals = c.args.«module».now.globals.items in
    let imports = imported imported_global (module_of c.args.«module».now) in
    let le = subst (λ ys. length ys ≤ c.loop-global.global-index) c.deref-global-items.ensures.value c.loop-global-test.false in
    c.loop-global.invariant ∙ ap (λ gs. map (λ (g : GlobalType). g.mutable) imports ++ map (λ (g : GlobalDef). g.mutable) gs) (take_all c.loop-global.global-index globals le)
    ∙ mutables_are imports globals
