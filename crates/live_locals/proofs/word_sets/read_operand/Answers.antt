use Rattle.live_locals.proofs.StepLemmas.{operand_local, operand_const}
use Rattle.live_locals.specs.Words.{world}
use Rattle.live_locals.proofs.word_sets.read_operand.Goals as goal

pub returns-in-Local : goal.returns-in-Local
returns-in-Local c = λ i il. operand_local c.args.operand c.in-Local.local (world i c.args.set.now) (world i c.read.new.set) c.in-Local.is (c.read.ensures i il)

pub returns-in-Const : goal.returns-in-Const
returns-in-Const c = λ i il. operand_const c.args.operand c.in-Const.field-0 (world i c.args.set.now) c.in-Const.is
