use Rattle.std.proofs.Common.{arith}
use Rattle.flow_rewrite.proofs.PutLemmas.{put_one, get_is, slots_step, slots_end}
use Rattle.flow_rewrite.proofs.put.put_slots.Goals as goal

pub loop-slot-preserved : goal.loop-slot-preserved
loop-slot-preserved c = slots_step _ _ _ c.args.slots.now c.loop-slot.slot-index _ (omega (arith, c.loop-slot-test.true)) c.loop-slot.invariant (put_one _ _ _ _ c.in_ok-push.ensures.items (get_is _))

pub returns : goal.returns
returns c = slots_end _ _ c.args.slots.now c.loop-slot.slot-index (omega (arith, c.loop-slot-test.false)) c.loop-slot.invariant
