use Rattle.std.proofs.Common.{length, map, get_or, ap, ◌∙◌, subst, ◌≤◌, ◌<◌}
use Rattle.std.specs.List.{filter_map}
use Rattle.std.proofs.lemmas.List.{take_all}
use Rattle.wa_types.specs.declared.syntax.Import.{Import}
use Rattle.wa_types.specs.Modules.{imported_global}
use Rattle.wa_types.specs.Typing.{GlobalType}
use Rattle.pause_host.proofs.Parts.{mapped_more}
use Rattle.pause_host.proofs.globals.imported_mutables.Goals as goal

pub loop-import-preserved : goal.loop-import-preserved
loop-import-preserved c =
    let xs = c.args.«module».now.imports.items in
    let i = c.loop-import.import-index in
    let d = c.deref-import-items.ensures.value in
    let lt = subst (λ ys. i < length ys) d c.loop-import-test.true in
    let at = c.import-item.is ∙ ap (λ ys. get_or ys i c.import-item.result) d in
    mapped_more (λ (g : GlobalType). g.mutable) (λ (y : Import). imported_global y.kind) xs i c.import-item.result c.loop-import.mutables.items c.put_mutable.new.mutables.items lt at
    c.loop-import.invariant c.in_ok-put_mutable.ensures

pub returns : goal.returns
returns c =
    let i = c.loop-import.import-index in
    let le = subst (λ ys. length ys ≤ i) c.deref-import-items.ensures.value c.loop-import-test.false in
    c.loop-import.invariant ∙ ap (λ ys. map (λ (g : GlobalType). g.mutable) (filter_map (λ (y : Import). imported_global y.kind) ys)) (take_all i c.args.«module».now.imports.items le)
