use Rattle.live_locals.proofs.StepLemmas.{plain_op, no_other, plain_arm, move_arm, call_arm, br_arm, br_if_arm, table_arm, halt_arm}
use Rattle.live_locals.specs.Words.{world, told_in}
use Rattle.live_locals.proofs.word_steps.pass_simple.Goals as goal

pub pass_op-requires : goal.pass_op-requires
pass_op-requires c = plain_op c.args.stmt.now c.in-Plain.op c.in-Plain.args c.in-Plain.to c.in-Plain.is c.requires.ops

pub unreachable-requires : goal.unreachable-requires
unreachable-requires c = no_other c.args.stmt.now c.requires.simple c.in_default.not-Plain c.in_default.not-Move c.in_default.not-Call c.in_default.not-Br c.in_default.not-BrIf
    c.in_default.not-BrTable c.in_default.not-Unreachable

pub returns-in-Plain : goal.returns-in-Plain
returns-in-Plain c = λ i il. plain_arm (told_in i c.args.outer.now c.args.inner.now) c.args.stmt.now c.in-Plain.op c.in-Plain.args c.in-Plain.to c.deref.result.now (world i c.args.set.now)
    (world i c.write_told.new.set) (world i c.pass_op.new.set)
    (world i c.read_operands.new.set) c.in-Plain.is c.deref.ensures.value (c.write_told.ensures i il) (c.pass_op.ensures i il) (c.read_operands.ensures i il)

pub returns-in-Move : goal.returns-in-Move
returns-in-Move c = λ i il. move_arm (told_in i c.args.outer.now c.args.inner.now) c.args.stmt.now c.in-Move.to c.in-Move.from (world i c.args.set.now) (world i c.write.new.set)
    (world i c.read_operand.new.set) c.in-Move.is (c.write.ensures i il) (c.read_operand.ensures i il)

pub returns-in-Call : goal.returns-in-Call
returns-in-Call c = λ i il. call_arm (told_in i c.args.outer.now c.args.inner.now) c.args.stmt.now c.in-Call.op c.in-Call.stack c.in-Call.args c.in-Call.to c.deref-in-Call.result.now
    (world i c.args.set.now) (world i c.write_told-in-Call.new.set)
    (world i c.read_taken.new.set) c.in-Call.is c.deref-in-Call.ensures.value c.requires.ops (c.write_told-in-Call.ensures i il) (c.read_taken.ensures i il)

pub returns-in-Br : goal.returns-in-Br
returns-in-Br c = λ i il. br_arm (told_in i c.args.outer.now c.args.inner.now) c.args.stmt.now c.in-Br.label (world i c.args.set.now) (world i c.pass_br.new.set) c.in-Br.is (c.pass_br.ensures i il)

pub returns-in-BrIf : goal.returns-in-BrIf
returns-in-BrIf c = λ i il. br_if_arm (told_in i c.args.outer.now c.args.inner.now) c.args.stmt.now c.in-BrIf.cond c.in-BrIf.label (world i c.args.set.now)
    (world i c.pass_br_if.new.set) c.in-BrIf.is (c.pass_br_if.ensures i il)

pub returns-in-BrTable : goal.returns-in-BrTable
returns-in-BrTable c = λ i il. table_arm (told_in i c.args.outer.now c.args.inner.now) c.args.stmt.now c.in-BrTable.index c.in-BrTable.labels c.in-BrTable.last c.deref-in-BrTable.result.now
    (world i c.args.set.now) (world i c.pass_br_table.new.set)
    c.in-BrTable.is c.deref-in-BrTable.ensures.value (c.pass_br_table.ensures i il)

pub returns-in-Unreachable : goal.returns-in-Unreachable
returns-in-Unreachable c = λ i il. halt_arm (told_in i c.args.outer.now c.args.inner.now) c.args.stmt.now (world i c.args.set.now) (world i c.empty.new.set) c.in-Unreachable.is (c.empty.ensures i il)
