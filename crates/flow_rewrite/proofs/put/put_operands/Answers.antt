use Rattle.std.proofs.Common.{arith}
use Rattle.flow_rewrite.proofs.PutLemmas.{operands_step, operands_end}
use Rattle.flow_rewrite.proofs.put.put_operands.Goals as goal

pub loop-operand-preserved : goal.loop-operand-preserved
loop-operand-preserved c = operands_step _ _ _ c.args.operands.now c.loop-operand.operand-index _ (omega (arith, c.loop-operand-test.true)) c.loop-operand.invariant c.in_ok-put_operand.ensures

pub returns : goal.returns
returns c = operands_end _ _ c.args.operands.now c.loop-operand.operand-index (omega (arith, c.loop-operand-test.false)) c.loop-operand.invariant
