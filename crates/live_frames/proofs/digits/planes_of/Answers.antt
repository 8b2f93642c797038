use Rattle.std.proofs.Common.{◌<◌, length, arith}
use Rattle.live_frames.specs.Digits.{plane_views, size_in}
use Rattle.live_frames.proofs.DigitSteps.{planes_step, power_of}
use Rattle.live_frames.proofs.digits.planes_of.Goals as goal

pub loop-digit-preserved : goal.loop-digit-preserved
loop-digit-preserved c =
    let digit = c.loop-digit.digit in
    let lt : digit < 32 = omega (arith, c.loop-digit-test.true, c.requires.digits) in
    planes_step (size_in c.args.sizes.now) (length c.args.sizes.now) digit _ c.in_ok-calls.calls (plane_views c.loop-digit.planes.items) (plane_views c.put_plane.new.planes.items)
    c.in_ok-calls.ensures (power_of digit lt) c.loop-digit.invariant c.in_ok-put_plane.ensures
