use Rattle.std.proofs.Common.{◌∷◌, [], ap, arith}
use Rattle.call_frames.specs.PlainLaws.{tests_cost}
use Rattle.call_frames.specs.Views.{part_view}
use Rattle.call_frames.proofs.GroupSteps.{cost_next, cost_within}
use Rattle.call_frames.proofs.measuring.cost_of.Goals as goal

pub part_cost-cost-requires : goal.part_cost-cost-requires
part_cost-cost-requires c =
    let n = cost_next c.args.parts.now c.loop-part.part-index c.part-item.result (omega (arith, c.loop-part-test.true)) in
    let w = cost_within c.args.parts.now c.loop-part.part-index c.part-item.result (omega (arith, c.loop-part-test.true)) in
    let e = ap (λ p. tests_cost (part_view p ∷ [])) c.part-item.is in
    omega (arith, n, w, e, c.requires)

pub overflow_add-cost : goal.overflow_add-cost
overflow_add-cost c =
    let n = cost_next c.args.parts.now c.loop-part.part-index c.part-item.result (omega (arith, c.loop-part-test.true)) in
    let w = cost_within c.args.parts.now c.loop-part.part-index c.part-item.result (omega (arith, c.loop-part-test.true)) in
    let e = ap (λ p. tests_cost (part_view p ∷ [])) c.part-item.is in
    omega (arith, n, w, e, c.requires, c.loop-part.invariant, c.part_cost-cost.ensures)

pub loop-part-preserved : goal.loop-part-preserved
loop-part-preserved c =
    let n = cost_next c.args.parts.now c.loop-part.part-index c.part-item.result (omega (arith, c.loop-part-test.true)) in
    let e = ap (λ p. tests_cost (part_view p ∷ [])) c.part-item.is in
    omega (arith, n, e, c.loop-part.invariant, c.part_cost-cost.ensures)
