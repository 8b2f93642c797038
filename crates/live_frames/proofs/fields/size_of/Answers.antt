use Rattle.std.proofs.Common.{◌+◌, arith}
use Rattle.live_frames.proofs.FieldSteps.{part_most, size_step}
use Rattle.live_frames.proofs.fields.size_of.Goals as goal

pub overflow_add-size : goal.overflow_add-size
overflow_add-size c =
    let e = size_step c.args.fields.now c.loop-field.field-index _ 0 c.loop-field.size c.width-size.result (omega (arith, c.loop-field-test.true))
    (omega (arith, c.loop-field.invariant)) c.width-size.ensures in
    let m = part_most c.args.fields.now (c.loop-field.field-index + 1) in
    omega (arith, c.requires)

pub loop-field-preserved : goal.loop-field-preserved
loop-field-preserved c =
    let e = size_step c.args.fields.now c.loop-field.field-index _ 0 c.loop-field.size c.width-size.result (omega (arith, c.loop-field-test.true))
    (omega (arith, c.loop-field.invariant)) c.width-size.ensures in
    omega arith

pub returns-clause-small : goal.returns-clause-small
returns-clause-small c =
    let m = part_most c.args.fields.now c.loop-field.field-index in
    omega (arith, c.requires, c.loop-field.invariant)
