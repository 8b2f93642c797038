use Rattle.std.proofs.Common.{drop}
use Rattle.call_frames.specs.Views.{class_parts}
use Rattle.call_frames.proofs.GroupSteps.{GroupsTo}
use Rattle.call_frames.proofs.grouping.groups_of.Given as goal

abbrev pub invariant-loop-local : goal.invariant-loop-local
invariant-loop-local l = GroupsTo l.types l.keepers l.local (drop l.local l.keepers) (class_parts l.groups.items)
