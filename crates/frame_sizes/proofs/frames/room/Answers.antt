use Rattle.std.proofs.Common.{arith}
use Rattle.wa_types.specs.View.{module_of}
use Rattle.call_graph.specs.Settings.{policy_of}
use Rattle.frame_sizes.proofs.FrameLemmas.{room_over}
use Rattle.frame_sizes.proofs.frames.room.Goals as goal

pub returns-then-total : goal.returns-then-total
returns-then-total c =
    room_over (module_of c.args.valid.now) (policy_of c.args.policy) c.args.stack.now c.loop-activation.activation-index c.loop-activation.size c.in_ok-frame.frame _
    (omega (arith, c.loop-activation-test.true)) c.loop-activation.invariant c.in_ok-frame.ensures.value c.if-total.true
