use Rattle.std.proofs.Common.{◌∙◌}
use Rattle.many_host.proofs.DueTicks.{left_all, left_next}
use Rattle.many_host.proofs.host.resumed_dues.Goals as goal

pub loop-i-preserved : goal.loop-i-preserved
loop-i-preserved c =
    left_next c.loop-i.i c.args.dues.now c.args.ended.now c.loop-i.left.items c.push.new.self.items c.due_unless.result _ c.loop-i-test.true c.requires c.loop-i.invariant c.due_unless.ensures
    c.in_ok-push.ensures.items

pub returns : goal.returns
returns c = c.loop-i.invariant ∙ left_all c.loop-i.i c.args.dues.now c.args.ended.now c.loop-i-test.false c.requires
