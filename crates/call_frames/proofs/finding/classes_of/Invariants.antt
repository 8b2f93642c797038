use Rattle.std.proofs.Common.{take}
use Rattle.call_frames.specs.Classes.{FewFields, Finds, KeepByClasses}
use Rattle.call_frames.specs.Views.{class_parts, sets_of}
use Rattle.call_frames.proofs.finding.classes_of.Given as goal

abbrev pub invariant-loop-call : goal.invariant-loop-call
invariant-loop-call l =
    KeepByClasses l.types (sets_of (take l.call l.sets)) (class_parts l.classes.items) × Finds l.types l.found (class_parts l.classes.items) × FewFields l.classes.items
