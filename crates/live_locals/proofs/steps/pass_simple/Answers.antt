use Rattle.live_locals.specs.Sets.{told_by}
use Rattle.live_locals.proofs.StepLemmas.{plain_op, no_other, plain_arm, move_arm, call_arm, br_arm, br_if_arm, table_arm, halt_arm}
use Rattle.live_locals.proofs.steps.pass_simple.Goals as goal

pub pass_op-requires : goal.pass_op-requires
pass_op-requires c = plain_op c.args.stmt.now c.in-Plain.op c.in-Plain.args c.in-Plain.to c.in-Plain.is c.requires.ops

pub unreachable-requires : goal.unreachable-requires
unreachable-requires c = no_other c.args.stmt.now c.requires.simple c.in_default.not-Plain c.in_default.not-Move c.in_default.not-Call c.in_default.not-Br c.in_default.not-BrIf
    c.in_default.not-BrTable c.in_default.not-Unreachable

pub returns-in-Plain : goal.returns-in-Plain
returns-in-Plain c = plain_arm (told_by c.args.tos.now) c.args.stmt.now c.in-Plain.op c.in-Plain.args c.in-Plain.to c.deref.result.now c.args.set.now c.write_told.new.set c.pass_op.new.set
    c.read_operands.new.set c.in-Plain.is c.deref.ensures.value c.write_told.ensures c.pass_op.ensures c.read_operands.ensures

pub returns-in-Move : goal.returns-in-Move
returns-in-Move c = move_arm (told_by c.args.tos.now) c.args.stmt.now c.in-Move.to c.in-Move.from c.args.set.now c.write.new.set c.read_operand.new.set c.in-Move.is c.write.ensures
    c.read_operand.ensures

pub returns-in-Call : goal.returns-in-Call
returns-in-Call c = call_arm (told_by c.args.tos.now) c.args.stmt.now c.in-Call.op c.in-Call.stack c.in-Call.args c.in-Call.to c.deref-in-Call.result.now c.args.set.now c.write_told-in-Call.new.set
    c.read_taken.new.set c.in-Call.is c.deref-in-Call.ensures.value c.requires.ops c.write_told-in-Call.ensures c.read_taken.ensures

pub returns-in-Br : goal.returns-in-Br
returns-in-Br c = br_arm (told_by c.args.tos.now) c.args.stmt.now c.in-Br.label c.args.set.now c.pass_br.new.set c.in-Br.is c.pass_br.ensures

pub returns-in-BrIf : goal.returns-in-BrIf
returns-in-BrIf c = br_if_arm (told_by c.args.tos.now) c.args.stmt.now c.in-BrIf.cond c.in-BrIf.label c.args.set.now c.pass_br_if.new.set c.in-BrIf.is c.pass_br_if.ensures

pub returns-in-BrTable : goal.returns-in-BrTable
returns-in-BrTable c = table_arm (told_by c.args.tos.now) c.args.stmt.now c.in-BrTable.index c.in-BrTable.labels c.in-BrTable.last c.deref-in-BrTable.result.now c.args.set.now c.pass_br_table.new.set
    c.in-BrTable.is c.deref-in-BrTable.ensures.value c.pass_br_table.ensures

pub returns-in-Unreachable : goal.returns-in-Unreachable
returns-in-Unreachable c = halt_arm (told_by c.args.tos.now) c.args.stmt.now c.args.set.now c.empty.new.set c.in-Unreachable.is c.empty.ensures
