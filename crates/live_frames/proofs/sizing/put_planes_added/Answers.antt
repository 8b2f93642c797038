use Rattle.std.proofs.Common.{◌<◌, [], ◌∷◌, get_or, length, take, ap, arith, refl}
use Rattle.std.proofs.lemmas.List.{take_all}
use Rattle.local_spill.proofs.PutLemmas.{put_on}
use Rattle.live_frames.specs.Digits.{plane_view, plane_views}
use Rattle.live_frames.proofs.WeightSteps.{added_same, added_step, alone_put, planes_more}
use Rattle.live_frames.proofs.sizing.put_planes_added.Goals as goal

pub loop-plane-preserved : goal.loop-plane-preserved
loop-plane-preserved c =
    let xs = c.args.planes.now in
    let i = c.loop-plane.plane-index in
    let d = c.plane-item.result in
    let lt : i < length xs = omega (arith, c.loop-plane-test.true) in
    added_step c.args.out.now.items c.loop-plane.out.items _ c.args.index (plane_views (take i xs)) (plane_view (get_or xs i d) ∷ []) _ (planes_more xs i d lt) c.loop-plane.invariant
    (added_same _ _ c.args.index _ _ (ap (λ p. plane_view p ∷ []) c.plane-item.is)
    (alone_put _ _ c.args.index d.calls (plane_view d) refl (put_on _ _ _ _ _ c.in_ok-put_test.ensures c.in_ok-put_weighed.ensures)))

pub returns : goal.returns
returns c =
    added_same _ _ c.args.index _ _ (ap plane_views (take_all c.loop-plane.plane-index c.args.planes.now (omega (arith, c.loop-plane-test.false)))) c.loop-plane.invariant
