use Rattle.std.proofs.Common.{refl, sym, ◌∙◌}
use Rattle.call_frames.specs.Views.{class_part}
use Rattle.call_frames.proofs.GroupSteps.{nothing_left, part_next, parts_end}
use Rattle.call_frames.proofs.parting.parts_of_classes.Goals as goal

pub loop-class-preserved : goal.loop-class-preserved
loop-class-preserved c =
    part_next class_part c.args.classes.items c.in-Some.class c.next.new.self.rest.items c.loop-class.class-iterator.rest.items _ c.loop-class.parts.items c.push.new.self.items
    c.in-Some.ensures.steps.0 c.in_ok-push.ensures.items refl c.loop-class.invariant

pub returns : goal.returns
returns c =
    parts_end class_part c.args.classes.items c.loop-class.class-iterator.rest.items c.loop-class.parts.items
    (nothing_left c.loop-class.class-iterator.rest.items (sym c.loop-class.class-iterator.rest.ok.0 ∙ c.in-None.ensures.steps.0)) c.loop-class.invariant
