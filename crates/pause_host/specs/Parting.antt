-- What a paused program is, read off it.
use Rattle.std.specs.Prelude.{ℕ, ◌-◌, List, length, min, Option, Some, None}
use Rattle.wa_types.specs.Memory.{pages_of}
use Rattle.interp.specs.Host.{store_in}
use Rattle.snapshot_store.specs.Snapshots.{PausedParts}
use Rattle.pause_host.specs.declared.program.Program.{Program}
use Rattle.pause_host.specs.declared.program.State.{State}
use Rattle.pause_host.specs.declared.program.State.TheVariants.{Live}
use Rattle.pause_host.specs.declared.stages.Stage.TheVariants.{Paused}
use Rattle.pause_host.specs.Programs.{memory_at}

-- the steps that it has taken
abbrev pub steps_used : Program → ℕ
steps_used x = x.setting.steps - x.steps_left

-- how many of its answer lines it has taken
abbrev pub answers_taken : Program → ℕ
answers_taken x = x.given - length x.left.answers.items

-- The parts of a program in a state: there are some where it is paused. (Each answer costs a step, so that those taken need no more than 32 bits.)
abbrev pub parts_at : Program → State → Option PausedParts
parts_at x (Live instance (Paused pause)) =
    Some (record {
      steps_used = steps_used x;
      entry = x.left.number;
      answers = min (answers_taken x) 4294967295;
      import = pause.import;
      globals = (store_in instance).globals;
      pages = pages_of (memory_at (Live instance (Paused pause)));
    })
parts_at x _ = None

-- those of a program
abbrev pub parts_in : Program → Option PausedParts
parts_in x = parts_at x x.state

-- the bytes of the memory, where there is an instance
abbrev pub memory_if : State → Option (List ℕ)
memory_if (Live instance stage) = Some (memory_at (Live instance stage))
memory_if _ = None
