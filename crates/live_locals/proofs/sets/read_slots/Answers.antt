use Rattle.std.proofs.Common.{arith}
use Rattle.live_locals.proofs.StepLemmas.{no_slots, slot_step, slots_end}
use Rattle.live_locals.proofs.sets.read_slots.Goals as goal

pub slots-init : goal.slots-init
slots-init c = (omega arith, no_slots c.args.set.now c.args.slots.now)

pub slots-preserved : goal.slots-preserved
slots-preserved c = (
  omega (arith, c.slots.invariant.0),
  slot_step c.args.set.now c.slots.set c.read.new.set c.args.slots.now c.slots.left _
      (omega (arith, c.slots-test.true)) c.slots.invariant.0 c.slots.invariant.1 c.read.ensures,
)

pub returns : goal.returns
returns c = slots_end c.args.set.now c.slots.set c.args.slots.now c.slots.left (omega (arith, c.slots-test.false)) c.slots.invariant.1
