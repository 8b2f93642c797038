use Rattle.std.proofs.Common.{◌+◌, ◌%◌, ◌^◌, ◌∙◌, ap, arith, get_or, refl}
use Rattle.live_frames.specs.declared.digits.OwnSize.{OwnSize}
use Rattle.live_frames.proofs.EndSteps.{summed_end, summed_first, summed_next}
use Rattle.live_frames.proofs.ends.sum_up.Goals as goal

pub loop-call-init : goal.loop-call-init
loop-call-init c = summed_first c.args.sizes.now.items c.args.ends.now

pub loop-call-preserved : goal.loop-call-preserved
loop-call-preserved c =
    summed_next c.args.sizes.now.items c.args.ends.now c.loop-call.call c.loop-call.more _ c.loop-call.sizes.items c.with_bytes.result c.index.result.now 0
    (omega (arith, c.loop-call-test.true)) c.requires refl
    (c.with_bytes.ensures ∙ ap (λ (s : OwnSize). (s.bytes + (c.loop-call.more + get_or c.args.ends.now c.loop-call.call 0) % 2 ^ 32) % 2 ^ 32) c.index.ensures) c.loop-call.invariant

pub returns-clause-sums : goal.returns-clause-sums
returns-clause-sums c = summed_end c.args.sizes.now.items c.args.ends.now c.loop-call.call c.loop-call.more c.loop-call.sizes.items (omega (arith, c.loop-call-test.false)) c.loop-call.invariant
