use Rattle.std.proofs.Common.{◌≡◌, ◌++◌}
use Rattle.call_frames.specs.Views.{class_parts, part_views}
use Rattle.call_frames.proofs.parting.parts_of_classes.Given as goal

-- those that are made, and the classes to come
abbrev pub invariant-loop-class : goal.invariant-loop-class
invariant-loop-class l = part_views l.parts.items ++ class_parts l.class-iterator.rest.items ≡ class_parts l.fn.classes.items
