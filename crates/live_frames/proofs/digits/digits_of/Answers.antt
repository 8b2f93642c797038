use Rattle.std.proofs.Common.{◌<◌, ◌≤◌, ◌^◌, List, subst, sym}
use Rattle.std.proofs.lemmas.Result.{IfOk-weaker}
use Rattle.call_frames.specs.PlainFrames.{WeighedCalls, weights_size}
use Rattle.live_frames.specs.Digits.{plane_views}
use Rattle.live_frames.proofs.DigitSteps.{digits_few, digits_made}
use Rattle.live_frames.proofs.WeightSteps.{weights_in}
use Rattle.live_frames.proofs.digits.digits_of.Goals as goal

pub returns-clause-digits : goal.returns-clause-digits
returns-clause-digits c =
    IfOk-weaker c.planes_of.result _ _
    (λ v e. digits_made c.deref.result.now c.in_ok-sizes.sizes.items (weights_in c.args.parts.now) (plane_views v.items) c.parts_end-end.result c.deref.ensures.value
    c.in_ok-sizes.ensures.length c.parts_end-end.ensures.end c.in_ok-sizes.ensures.sizes e) c.planes_of.ensures

pub returns-clause-small : goal.returns-clause-small
returns-clause-small c =
    IfOk-weaker c.planes_of.result _ _
    (λ v e. subst (λ (ws : List WeighedCalls). weights_size ws < 2 ^ 64) (sym (digits_made c.deref.result.now c.in_ok-sizes.sizes.items (weights_in c.args.parts.now) (plane_views v.items)
    c.parts_end-end.result c.deref.ensures.value c.in_ok-sizes.ensures.length c.parts_end-end.ensures.end c.in_ok-sizes.ensures.sizes e))
    (digits_few (weights_in c.args.parts.now) (subst (λ n. n ≤ 4294967296) c.parts_end-end.ensures.end c.parts_end-end.ensures.small))) c.planes_of.ensures
