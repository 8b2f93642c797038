use Rattle.std.proofs.Common.{arith, ◌∙◌, ap}
use Rattle.std.proofs.lemmas.Result.{on_ok_weaker}
use Rattle.call_frames.specs.PlainFrames.{digits_of, weights_size}
use Rattle.live_frames.specs.Digits.{plane_views}
use Rattle.live_frames.specs.Rows.{saturated}
use Rattle.live_frames.proofs.MeasureSteps.{digits_taken, parts_taken}
use Rattle.live_frames.proofs.WeightSteps.{added_same, weights_in}
use Rattle.live_frames.proofs.sizing.put_own_size.Goals as goal

pub returns-then-planes_size-parts_size : goal.returns-then-planes_size-parts_size
returns-then-planes_size-parts_size c =
    let ws = weights_in c.args.parts.now in
    let planes = c.in_ok-planes.planes.items in
    let size = c.planes_size.ensures ∙ ap (λ ps. saturated (weights_size (plane_views ps))) c.deref.ensures.value in
    on_ok_weaker c.put_planes_added.result
    (λ h. added_same _ _ c.args.index _ _ (ap plane_views c.deref-then-planes_size-parts_size.ensures.value
    ∙ digits_taken (digits_of ws) ws (plane_views planes) c.planes_size.result c.parts_size.result c.in_ok-planes.ensures.digits c.in_ok-planes.ensures.small size c.parts_size.ensures
    (omega (arith, c.if-planes_size-parts_size.true))) h)
    c.put_planes_added.ensures

pub returns : goal.returns
returns c =
    let ws = weights_in c.args.parts.now in
    let planes = c.in_ok-planes.planes.items in
    let size = c.planes_size.ensures ∙ ap (λ ps. saturated (weights_size (plane_views ps))) c.deref.ensures.value in
    on_ok_weaker c.put_sizes_added.result
    (λ h. added_same _ _ c.args.index _ _ (parts_taken (digits_of ws) ws (plane_views planes) c.planes_size.result c.parts_size.result c.in_ok-planes.ensures.digits size c.parts_size.ensures
    (omega (arith, c.if-planes_size-parts_size.false))) h)
    c.put_sizes_added.ensures
