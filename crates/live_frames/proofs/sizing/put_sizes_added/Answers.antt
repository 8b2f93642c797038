use Rattle.std.proofs.Common.{◌<◌, ◌≤◌, length, take, get_or, ap, arith, subst, sym}
use Rattle.std.proofs.lemmas.List.{take_all}
use Rattle.call_frames.specs.declared.frames.KeptPart.{KeptPart}
use Rattle.call_frames.specs.Classes.{part_fields}
use Rattle.call_frames.specs.Views.{part_view}
use Rattle.live_frames.proofs.FieldSteps.{few_at}
use Rattle.live_frames.proofs.WeightSteps.{added_same, added_step, weights_in, weights_more, weights_of}
use Rattle.live_frames.proofs.sizing.put_sizes_added.Goals as goal

pub put_size_added-requires : goal.put_size_added-requires
put_size_added-requires c =
    subst (λ (p : KeptPart). part_fields (part_view p) ≤ 50000) (sym c.part-item.is)
    (few_at c.args.parts.now c.loop-part.part-index c.part-item.result c.requires.each (omega (arith, c.loop-part-test.true)))

pub loop-part-preserved : goal.loop-part-preserved
loop-part-preserved c =
    let xs = c.args.parts.now in
    let i = c.loop-part.part-index in
    let lt : i < length xs = omega (arith, c.loop-part-test.true) in
    added_step c.args.out.now.items c.loop-part.out.items c.put_size_added.new.out.items c.args.index (weights_in (take i xs)) (weights_of (get_or xs i c.part-item.result)) _
    (weights_more xs i c.part-item.result lt) c.loop-part.invariant
    (added_same _ _ c.args.index _ _ (ap weights_of c.part-item.is) c.in_ok-put_size_added.ensures)

pub returns : goal.returns
returns c =
    added_same _ _ c.args.index _ _ (ap weights_in (take_all c.loop-part.part-index c.args.parts.now (omega (arith, c.loop-part-test.false)))) c.loop-part.invariant
