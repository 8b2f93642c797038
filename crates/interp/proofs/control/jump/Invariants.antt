use Rattle.std.proofs.Common.{◌≡◌, vec_len}
use Rattle.wa_types.specs.View.{module_of}
use Rattle.wa_model.specs.Store.{Store}
use Rattle.interp.specs.StackRooms.{Roomier}
use Rattle.interp.specs.Stacks.{jump_of}
use Rattle.interp.proofs.control.jump.Given as goal

abbrev pub invariant-loop-entry : goal.invariant-loop-entry
invariant-loop-entry l =
    record {
      path : (s : Store) → jump_of (module_of l.program) s l.more l.stack l.passed ≡ jump_of (module_of l.program) s l.more l.fn.stack l.label;
      roomier : Roomier l.fn.stack l.stack;
    }

abbrev pub decreases-loop-entry : goal.decreases-loop-entry
decreases-loop-entry l = vec_len l.stack.here.labels
