use Rattle.std.proofs.Common.{◌-◌, ap, ◌∙◌}
use Rattle.std.proofs.lemmas.Result.{IfOk-weaker}
use Rattle.local_spill.specs.Spilling.{prologue_code, unless_normal, restoring, spill_indices}
use Rattle.local_spill.proofs.PutLemmas.{nothing_is, whole}
use Rattle.local_spill.proofs.spilling.prologue.Goals as goal

pub returns-in-None : goal.returns-in-None
returns-in-None c rest = nothing_is _ rest c.new.ensures.items ∙ ap (λ o. prologue_code c.args.base c.args.ids.now o rest) c.in-None.ensures.value

pub returns-in_ok-arm-in-Some : goal.returns-in_ok-arm-in-Some
returns-in_ok-arm-in-Some c =
    let l = c.in-Some.layout.now in
    let arm = whole c.in_ok-arm-in-Some.arm.items (restoring (spill_indices c.args.base c.args.ids.now) (l.size - 4) l.places.items) c.in_ok-arm-in-Some.ensures in
    IfOk-weaker c.unless_normal.result _ _
    (λ v h rest. h rest ∙ ap (λ a. unless_normal c.args.ids.now.state a rest) arm ∙ ap (λ o. prologue_code c.args.base c.args.ids.now o rest) c.in-Some.ensures.value)
    c.unless_normal.ensures
