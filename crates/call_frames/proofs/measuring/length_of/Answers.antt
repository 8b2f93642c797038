use Rattle.std.proofs.Common.{◌∷◌, [], ap, arith}
use Rattle.call_frames.specs.CallParts.{parts_length}
use Rattle.call_frames.specs.Views.{part_view}
use Rattle.call_frames.proofs.GroupSteps.{length_next, length_within}
use Rattle.call_frames.proofs.measuring.length_of.Goals as goal

pub part_length-length-requires : goal.part_length-length-requires
part_length-length-requires c =
    let n = length_next c.args.parts.now c.loop-part.part-index c.part-item.result (omega (arith, c.loop-part-test.true)) in
    let w = length_within c.args.parts.now c.loop-part.part-index c.part-item.result (omega (arith, c.loop-part-test.true)) in
    let e = ap (λ p. parts_length (part_view p ∷ [])) c.part-item.is in
    omega (arith, n, w, e, c.requires)

pub overflow_add-length : goal.overflow_add-length
overflow_add-length c =
    let n = length_next c.args.parts.now c.loop-part.part-index c.part-item.result (omega (arith, c.loop-part-test.true)) in
    let w = length_within c.args.parts.now c.loop-part.part-index c.part-item.result (omega (arith, c.loop-part-test.true)) in
    let e = ap (λ p. parts_length (part_view p ∷ [])) c.part-item.is in
    omega (arith, n, w, e, c.requires, c.loop-part.invariant, c.part_length-length.ensures)

pub loop-part-preserved : goal.loop-part-preserved
loop-part-preserved c =
    let n = length_next c.args.parts.now c.loop-part.part-index c.part-item.result (omega (arith, c.loop-part-test.true)) in
    let e = ap (λ p. parts_length (part_view p ∷ [])) c.part-item.is in
    omega (arith, n, e, c.loop-part.invariant, c.part_length-length.ensures)
