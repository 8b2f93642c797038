use Rattle.std.proofs.Common.{◌≤◌, ◌∷◌, [], ap, arith, subst, sym}
use Rattle.call_frames.specs.declared.frames.KeptPart.{KeptPart}
use Rattle.call_frames.specs.Classes.{part_fields}
use Rattle.call_frames.specs.Views.{part_view}
use Rattle.live_frames.proofs.FieldSteps.{few_at, shared_bytes, shared_next, shared_small}
use Rattle.live_frames.proofs.fields.shared_of.Goals as goal

pub shared_in-size-requires : goal.shared_in-size-requires
shared_in-size-requires c =
    subst (λ (p : KeptPart). part_fields (part_view p) ≤ 50000) (sym c.part-item.is)
    (few_at c.args.parts.now c.loop-part.part-index c.part-item.result c.requires.each (omega (arith, c.loop-part-test.true)))

pub overflow_add-size : goal.overflow_add-size
overflow_add-size c =
    let b = c.loop-part.invariant 0 in
    let m = shared_small 0 c.args.parts.now c.loop-part.part-index c.requires in
    omega (arith, b, m, c.shared_in-size.ensures.small)

pub loop-part-preserved : goal.loop-part-preserved
loop-part-preserved c index =
    let b = c.loop-part.invariant index in
    let n = shared_next index c.args.parts.now c.loop-part.part-index c.part-item.result (omega (arith, c.loop-part-test.true)) in
    let e = ap (λ p. shared_bytes index (part_view p ∷ [])) c.part-item.is in
    let s = c.shared_in-size.ensures.size index in
    omega (arith, b, n, e, s)

pub returns-clause-small : goal.returns-clause-small
returns-clause-small c =
    let b = c.loop-part.invariant 0 in
    let m = shared_small 0 c.args.parts.now c.loop-part.part-index c.requires in
    omega (arith, b, m)
