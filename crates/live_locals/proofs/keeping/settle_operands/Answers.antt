use Rattle.std.proofs.Common.{arith}
use Rattle.live_locals.specs.Keeping.{is_local}
use Rattle.live_locals.proofs.KeepingLemmas.{settles_begin, settles_end, settles_next}
use Rattle.live_locals.proofs.keeping.settle_operands.Goals as goal

pub loop-at-init : goal.loop-at-init
loop-at-init c = settles_begin c.args.set.now is_local c.args.operands.now c.args.keeping.now c.requires

pub settle_operand-requires : goal.settle_operand-requires
settle_operand-requires c = c.loop-at.invariant.stands

pub loop-at-preserved : goal.loop-at-preserved
loop-at-preserved c =
    settles_next c.args.set.now is_local c.args.operands.now c.loop-at.at _ c.args.keeping.now c.loop-at.keeping c.settle_operand.new.keeping c.loop-at-test.true c.loop-at.invariant
    c.in_ok-settle_operand.ensures

pub returns : goal.returns
returns c = settles_end c.args.set.now is_local c.args.operands.now c.loop-at.at c.args.keeping.now c.loop-at.keeping (omega (arith, c.loop-at-test.false)) c.loop-at.invariant
