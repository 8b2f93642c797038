use Rattle.live_frames.proofs.DigitSteps.{calls_step}
use Rattle.live_frames.proofs.digits.digit_calls.Goals as goal

pub loop-call-preserved : goal.loop-call-preserved
loop-call-preserved c =
    calls_step c.args.sizes.now c.args.digit c.loop-call.call _ c.has_digit.result c.loop-call.calls c.put_call.new.calls c.loop-call-test.true c.has_digit.ensures
    c.loop-call.invariant c.in_ok-put_call.ensures
