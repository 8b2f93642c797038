use Rattle.std.proofs.Common.{◌+◌, ◌<◌, [], ◌∷◌, get_or, length, take, ap, arith}
use Rattle.live_frames.specs.declared.digits.Plane.{Plane}
use Rattle.live_frames.specs.Digits.{plane_view, plane_views}
use Rattle.live_frames.proofs.MeasureSteps.{size_alone, size_more}
use Rattle.live_frames.proofs.WeightSteps.{planes_more}
use Rattle.live_frames.proofs.measuring.planes_size.Goals as goal

pub loop-plane-preserved : goal.loop-plane-preserved
loop-plane-preserved c =
    let xs = c.args.planes.now in
    let i = c.loop-plane.plane-index in
    let d = c.plane-item.result in
    let lt : i < length xs = omega (arith, c.loop-plane-test.true) in
    size_more (plane_views (take i xs)) (plane_view (get_or xs i d) ∷ []) (plane_views (take (i + 1) xs)) c.loop-plane.size c.weight_size.result c.saturating_add-size.result
    (planes_more xs i d lt) c.loop-plane.invariant
    (size_alone d.calls (plane_view (get_or xs i d)) c.weight_size.result (ap (λ (p : Plane). p.calls) c.plane-item.is) c.weight_size.ensures)
    c.saturating_add-size.ensures
