-- Which records of a snapshot suit the programs of a world, which begin at their start.
use Rattle.std.specs.Prelude.{◌≡◌, ◌≤◌, ◌<◌, ◌-◌, ◌*◌, ◌^◌, List, length, false, None, Some, slice_get}
use Rattle.std.specs.List.{AllZip}
use Rattle.wa_types.specs.Memory.{page_size}
use Rattle.wa_types.specs.Modules.{func_type_at}
use Rattle.wa_model.specs.Blocking.{fault_of}
use Rattle.wa_model.specs.Outside.{AnswerLine}
use Rattle.world_model.specs.World.{Program, import_names}
use Rattle.interp.specs.Restoring.{PagesFit}
use Rattle.pause_host.specs.Thawing.{GlobalsSuit}
use Rattle.snapshot_store.specs.Snapshots.{PausedParts, ProgramRecord, Snapshot, fresh, over, paused}

-- The last answer taken pauses, names the import that waits, and passes its tests on the memory; so that import is listed.
pub record WaitsForLast (w : Program) (x : PausedParts) : Type 0 where
  pub some : 1 ≤ x.answers
  pub line : AnswerLine
  pub there : slice_get w.answers (x.answers - 1) ≡ Some line
  pub pauses : 1 ≤ line.answer.ticks
  pub names : slice_get (import_names w.source) x.import ≡ Some line.import
  pub passes : fault_of (func_type_at w.source x.import).results (x.pages * page_size) w.plan false x.import line.answer ≡ None

-- The parts of a pause suit a program: it has the steps that are used and the entry that runs; its module has such globals and a memory of
-- so many pages; and it waits for the last answer taken.
pub record PauseSuits (w : Program) (x : PausedParts) : Type 0 where
  pub steps : x.steps_used ≤ w.steps
  pub entry : x.entry < length w.plan.entries
  pub globals : GlobalsSuit w.source w.plan.globals x.globals
  pub pages : PagesFit w.source x.pages
  pub last : WaitsForLast w x

-- A record suits a program: a pause is due before the tick 2^62, and has parts that suit it.
abbrev pub RecordSuits : Program → ProgramRecord → Type 0
RecordSuits w fresh = Unit {0}
RecordSuits w (paused due x memory) = (due < 2 ^ 62) × PauseSuits w x
RecordSuits w over = Unit {0}

-- A snapshot suits programs: there are fewer than 2^62 events, and a record of each program, which suits it.
pub record SnapshotSuits (programs : List Program) (s : Snapshot) : Type 0 where
  pub events : s.events < 2 ^ 62
  pub records : AllZip RecordSuits programs s.programs
