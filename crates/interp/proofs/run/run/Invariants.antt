use Rattle.std.proofs.Common.{◌≡◌, ◌+◌, ◌-◌, ◌≤◌}
use Rattle.wa_types.specs.View.{module_of}
use Rattle.run_theory.specs.Alone.{Goes}
use Rattle.interp.specs.StackRooms.{StackRoom}
use Rattle.interp_state.specs.View.{store_of, running_of}
use Rattle.interp.proofs.run.run.Given as goal

abbrev pub invariant-loop-steps : goal.invariant-loop-steps
invariant-loop-steps l =
    record {
      goes : Goes (module_of l.program) (running_of (store_of l.fn.store) l.fn.stack) (l.steps.used - l.fn.steps.used) (running_of (store_of l.store) l.stack);
      sum : l.steps.left + l.steps.used ≡ l.fn.steps.left + l.fn.steps.used;
      grows : l.fn.steps.used ≤ l.steps.used;
      room : StackRoom (module_of l.program) l.fn.stack → StackRoom (module_of l.program) l.stack;
      max : l.store.memory.max ≡ l.fn.store.memory.max;
    }

abbrev pub decreases-loop-steps : goal.decreases-loop-steps
decreases-loop-steps l = l.steps.left
