use Rattle.std.proofs.Common.{◌≡◌, ◌++◌, map}
use Rattle.call_frames.specs.declared.frames.CallClass.{CallClass}
use Rattle.call_frames.specs.CallParts.{shared_where}
use Rattle.call_frames.specs.Views.{class_part, part_views}
use Rattle.call_frames.proofs.parting.parts_of_groups.Given as goal

-- those that are made, and those of the groups to come
abbrev pub invariant-loop-group : goal.invariant-loop-group
invariant-loop-group l =
    part_views l.parts.items ++ map (λ (c : CallClass). shared_where l.count (class_part c)) l.group-iterator.rest.items
    ≡ map (λ (c : CallClass). shared_where l.count (class_part c)) l.fn.groups.items
