use Rattle.std.proofs.Common.{arith, ◌∙◌}
use Rattle.call_frames.proofs.GroupSteps.{one_length}
use Rattle.call_frames.proofs.measuring.class_length.Goals as goal

pub overflow_mul-result-2 : goal.overflow_mul-result-2
overflow_mul-result-2 c =
    let e = one_length c.args.class.now in
    let l = c.len.ensures ∙ c.args.class.now.fields.ok.0 in omega (arith, e, l, c.requires)

pub overflow_add-result-2 : goal.overflow_add-result-2
overflow_add-result-2 c =
    let e = one_length c.args.class.now in
    let t = c.test_size.ensures in
    let l = c.len.ensures ∙ c.args.class.now.fields.ok.0 in omega (arith, e, t, l, c.requires)

pub returns : goal.returns
returns c =
    let e = one_length c.args.class.now in
    let t = c.test_size.ensures in
    let l = c.len.ensures ∙ c.args.class.now.fields.ok.0 in omega (arith, e, t, l)
