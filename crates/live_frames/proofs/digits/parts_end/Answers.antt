use Rattle.std.proofs.Common.{◌<◌, get_or, length, take, ap, arith}
use Rattle.call_frames.specs.PlainFrames.{weights_end}
use Rattle.call_frames.specs.declared.frames.KeptPart.{KeptPart}
use Rattle.live_frames.proofs.WeightSteps.{end_split, weights_in, weights_more, weights_of}
use Rattle.live_frames.proofs.digits.parts_end.Goals as goal

pub loop-part-preserved : goal.loop-part-preserved
loop-part-preserved c =
    let xs = c.args.parts.now in
    let i = c.loop-part.part-index in
    let d = c.part-item.result in
    let lt : i < length xs = omega (arith, c.loop-part-test.true) in
    let e = ap weights_end (weights_more xs i d lt) in
    let s = end_split (weights_in (take i xs)) (weights_of (get_or xs i d)) in
    let p = ap (λ (q : KeptPart). weights_end (weights_of q)) c.part-item.is in (
      omega (arith, e, s, p, c.loop-part.invariant.0, c.part_end.ensures.end, c.max-end.ensures),
      omega (arith, c.loop-part.invariant.1, c.part_end.ensures.small, c.max-end.ensures),
    )
