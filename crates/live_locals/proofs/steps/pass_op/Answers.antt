use Rattle.live_locals.proofs.StepLemmas.{op_get, op_set, op_tee, op_other}
use Rattle.live_locals.proofs.steps.pass_op.Goals as goal

pub returns-in-LocalGet : goal.returns-in-LocalGet
returns-in-LocalGet c = op_get c.args.op.now c.in-LocalGet.local c.args.set.now c.read.new.set c.in-LocalGet.is c.read.ensures

pub returns-in-LocalSet : goal.returns-in-LocalSet
returns-in-LocalSet c = op_set c.args.op.now c.in-LocalSet.local c.args.set.now c.write.new.set c.in-LocalSet.is c.write.ensures

pub returns-in-LocalTee : goal.returns-in-LocalTee
returns-in-LocalTee c = op_tee c.args.op.now c.in-LocalTee.local c.args.set.now c.write-in-LocalTee.new.set c.in-LocalTee.is c.write-in-LocalTee.ensures

pub returns-in_default : goal.returns-in_default
returns-in_default c = op_other c.args.op.now c.args.set.now c.requires c.in_default.not-LocalGet c.in_default.not-LocalSet c.in_default.not-LocalTee
