use Rattle.live_locals.proofs.StepLemmas.{operand_local, operand_const}
use Rattle.live_locals.proofs.sets.read_operand.Goals as goal

pub returns-in-Local : goal.returns-in-Local
returns-in-Local c = operand_local c.args.operand c.in-Local.local c.args.set.now c.read.new.set c.in-Local.is c.read.ensures

pub returns-in-Const : goal.returns-in-Const
returns-in-Const c = operand_const c.args.operand c.in-Const.field-0 c.args.set.now c.in-Const.is
