use Rattle.std.proofs.Common.{sym, ◌∙◌}
use Rattle.call_frames.specs.declared.frames.CallClass.{CallClass}
use Rattle.call_frames.specs.CallParts.{shared_where}
use Rattle.call_frames.specs.Views.{class_part}
use Rattle.call_frames.proofs.GroupSteps.{nothing_left, part_next, parts_end, two_maps}
use Rattle.call_frames.proofs.parting.parts_of_groups.Goals as goal

pub loop-group-preserved : goal.loop-group-preserved
loop-group-preserved c =
    part_next (λ (x : CallClass). shared_where c.args.count (class_part x)) c.args.groups.items c.in-Some.group c.next.new.self.rest.items
    c.loop-group.group-iterator.rest.items _ c.loop-group.parts.items c.push.new.self.items c.in-Some.ensures.steps.0 c.in_ok-push.ensures.items c.part_among.ensures c.loop-group.invariant

pub returns : goal.returns
returns c =
    parts_end (λ (x : CallClass). shared_where c.args.count (class_part x)) c.args.groups.items c.loop-group.group-iterator.rest.items c.loop-group.parts.items
    (nothing_left c.loop-group.group-iterator.rest.items (sym c.loop-group.group-iterator.rest.ok.0 ∙ c.in-None.ensures.steps.0)) c.loop-group.invariant
    ∙ two_maps class_part (shared_where c.args.count) c.args.groups.items
