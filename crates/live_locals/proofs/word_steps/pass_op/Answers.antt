use Rattle.live_locals.proofs.StepLemmas.{op_get, op_set, op_tee, op_other}
use Rattle.live_locals.specs.Words.{world}
use Rattle.live_locals.proofs.word_steps.pass_op.Goals as goal

pub returns-in-LocalGet : goal.returns-in-LocalGet
returns-in-LocalGet c = λ i il. op_get c.args.op.now c.in-LocalGet.local (world i c.args.set.now) (world i c.read.new.set) c.in-LocalGet.is (c.read.ensures i il)

pub returns-in-LocalSet : goal.returns-in-LocalSet
returns-in-LocalSet c = λ i il. op_set c.args.op.now c.in-LocalSet.local (world i c.args.set.now) (world i c.write.new.set) c.in-LocalSet.is (c.write.ensures i il)

pub returns-in-LocalTee : goal.returns-in-LocalTee
returns-in-LocalTee c = λ i il. op_tee c.args.op.now c.in-LocalTee.local (world i c.args.set.now) (world i c.write-in-LocalTee.new.set) c.in-LocalTee.is (c.write-in-LocalTee.ensures i il)

pub returns-in_default : goal.returns-in_default
returns-in_default c = λ i il. op_other c.args.op.now (world i c.args.set.now) c.requires c.in_default.not-LocalGet c.in_default.not-LocalSet c.in_default.not-LocalTee
