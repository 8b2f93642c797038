use Rattle.std.proofs.Common.{◌+◌, ◌<◌, get_or, length, take, ap, arith, ◌∙◌}
use Rattle.call_frames.specs.PlainFrames.{weights_size}
use Rattle.call_frames.specs.declared.frames.KeptPart.{KeptPart}
use Rattle.live_frames.specs.Rows.{saturated}
use Rattle.live_frames.proofs.MeasureSteps.{size_more}
use Rattle.live_frames.proofs.WeightSteps.{weights_in, weights_more, weights_of}
use Rattle.live_frames.proofs.measuring.parts_size.Goals as goal

pub loop-part-preserved : goal.loop-part-preserved
loop-part-preserved c =
    let xs = c.args.parts.now in
    let i = c.loop-part.part-index in
    let d = c.part-item.result in
    let lt : i < length xs = omega (arith, c.loop-part-test.true) in
    size_more (weights_in (take i xs)) (weights_of (get_or xs i d)) (weights_in (take (i + 1) xs)) c.loop-part.size c.part_size.result c.saturating_add-size.result (weights_more xs i d lt)
    c.loop-part.invariant (c.part_size.ensures ∙ ap (λ (p : KeptPart). saturated (weights_size (weights_of p))) c.part-item.is) c.saturating_add-size.ensures
