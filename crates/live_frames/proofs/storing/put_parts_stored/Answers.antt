use Rattle.std.proofs.Common.{◌<◌, ◌≤◌, length, ◌∷◌, [], ap, arith, subst, sym}
use Rattle.call_frames.specs.FrameParts.{parts_stored}
use Rattle.call_frames.specs.PlainFrames.{parts_of}
use Rattle.call_frames.specs.declared.frames.KeptPart.{KeptPart}
use Rattle.call_frames.specs.Classes.{part_fields}
use Rattle.call_frames.specs.Views.{part_view}
use Rattle.live_frames.proofs.FieldSteps.{few_at, shared_bytes, shared_next, shared_small}
use Rattle.live_frames.proofs.PutSteps.{part_same, part_stored_end, part_stored_step}
use Rattle.live_frames.proofs.storing.put_parts_stored.Goals as goal

pub put_part_stored-requires-clause-few : goal.put_part_stored-requires-clause-few
put_part_stored-requires-clause-few c =
    subst (λ (p : KeptPart). part_fields (part_view p) ≤ 50000) (sym c.part-item.is)
    (few_at c.args.parts.now c.loop-part.part-index c.part-item.result c.requires.each (omega (arith, c.loop-part-test.true)))

pub put_part_stored-requires-clause-offset : goal.put_part_stored-requires-clause-offset
put_part_stored-requires-clause-offset c =
    let m = shared_small c.args.index c.args.parts.now c.loop-part.part-index c.requires in
    omega (arith, m, c.loop-part.invariant.0)

pub shared_in-offset-requires : goal.shared_in-offset-requires
shared_in-offset-requires c =
    subst (λ (p : KeptPart). part_fields (part_view p) ≤ 50000) (sym c.part-item.is)
    (few_at c.args.parts.now c.loop-part.part-index c.part-item.result c.requires.each (omega (arith, c.loop-part-test.true)))

pub overflow_add-offset : goal.overflow_add-offset
overflow_add-offset c =
    let m = shared_small c.args.index c.args.parts.now c.loop-part.part-index c.requires in
    omega (arith, m, c.loop-part.invariant.0, c.shared_in-offset.ensures.small)

pub loop-part-preserved : goal.loop-part-preserved
loop-part-preserved c =
    let i = c.loop-part.part-index in
    let lt : i < length c.args.parts.now = omega (arith, c.loop-part-test.true) in
    let n = shared_next c.args.index c.args.parts.now i c.part-item.result lt in
    let e = ap (λ p. shared_bytes c.args.index (part_view p ∷ [])) c.part-item.is in
    let s = c.shared_in-offset.ensures.size c.args.index in (
      omega (arith, c.loop-part.invariant.0, n, e, s),
      part_stored_step c.args.out.now.items c.loop-part.out.items c.put_part_stored.new.out.items c.args.index c.args.scratch c.args.parts.now i c.part-item.result lt
          c.loop-part.offset c.loop-part.invariant.0 c.loop-part.invariant.1
          (part_same _ _ (λ p. parts_stored c.args.scratch c.loop-part.offset (parts_of c.args.index (p ∷ []))) _ c.part-item.result (sym c.part-item.is) c.in_ok-put_part_stored.ensures),
    )

pub returns : goal.returns
returns c = part_stored_end _ _ c.args.index c.args.scratch c.args.parts.now c.loop-part.part-index (omega (arith, c.loop-part-test.false)) c.loop-part.invariant.1
