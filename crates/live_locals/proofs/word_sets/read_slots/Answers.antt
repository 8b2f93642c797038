use Rattle.std.proofs.Common.{arith}
use Rattle.live_locals.proofs.StepLemmas.{no_slots, slot_step, slots_end}
use Rattle.live_locals.specs.Words.{world}
use Rattle.live_locals.proofs.word_sets.read_slots.Goals as goal

pub loop-left-init : goal.loop-left-init
loop-left-init c = (omega arith, λ i il. no_slots (world i c.args.set.now) c.args.slots.now)

pub loop-left-preserved : goal.loop-left-preserved
loop-left-preserved c = (
  omega (arith, c.loop-left.invariant.0),
  λ i il. slot_step (world i c.args.set.now) (world i c.loop-left.set) (world i c.read.new.set) c.args.slots.now c.loop-left.left _
      (omega (arith, c.loop-left-test.true)) c.loop-left.invariant.0 (c.loop-left.invariant.1 i il) (c.read.ensures i il),
)

pub returns : goal.returns
returns c = λ i il. slots_end (world i c.args.set.now) (world i c.loop-left.set) c.args.slots.now c.loop-left.left (omega (arith, c.loop-left-test.false)) (c.loop-left.invariant.1 i il)
