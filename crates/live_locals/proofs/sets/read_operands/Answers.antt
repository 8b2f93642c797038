use Rattle.std.proofs.Common.{arith}
use Rattle.live_locals.proofs.StepLemmas.{none_got, operand_step, operands_end}
use Rattle.live_locals.proofs.sets.read_operands.Goals as goal

pub loop-left-init : goal.loop-left-init
loop-left-init c = (omega arith, none_got c.args.set.now c.args.operands.now)

pub loop-left-preserved : goal.loop-left-preserved
loop-left-preserved c = (
  omega (arith, c.loop-left.invariant.0),
  operand_step c.args.set.now c.loop-left.set c.read_operand.new.set c.args.operands.now c.loop-left.left _
      (omega (arith, c.loop-left-test.true)) c.loop-left.invariant.0 c.loop-left.invariant.1 c.read_operand.ensures,
)

pub returns : goal.returns
returns c = operands_end c.args.set.now c.loop-left.set c.args.operands.now c.loop-left.left (omega (arith, c.loop-left-test.false)) c.loop-left.invariant.1
