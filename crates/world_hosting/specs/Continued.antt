-- The programs of a script that go on from a snapshot, and what is told of them.
use Rattle.std.specs.Prelude.{◌≡◌, ◌<◌, ◌*◌, ◌^◌, ℕ, List, [], ◌∷◌, length, map, Option, Bool, true, false, MatchBool, Result, Ok, Err}
use Rattle.wa_types.specs.Memory.{page_size}
use Rattle.wa_model.specs.declared.answers.Detach.{Detach}
use Rattle.world_model.specs.World as W
use Rattle.world_model.specs.World.{answers_from, due_from, gone}
use Rattle.event_order.specs.Left.{Counted}
use Rattle.pause_host.specs.declared.faults.ThawFault.{ThawFault}
use Rattle.pause_host.specs.declared.faults.ThawFault.TheVariants as T
use Rattle.pause_host.specs.declared.program.Program.{Program}
use Rattle.pause_host.specs.Programs.{Follows, lines_left}
use Rattle.many_host.specs.Turns.{is_gone}
use Rattle.script_reader.specs.Views.{show_of}
use Rattle.snapshot_store.specs.Snapshots.{ProgramRecord, Snapshot, fresh, over, paused}
use Rattle.transcript.specs.Printing.{names_of}
use Rattle.vault_port.specs.declared.whole.PutFault.{PutFault}
use Rattle.world_laws.specs.Snapshots.{From, from_record}
use Rattle.world_hosting.specs.declared.resuming.Resumed.{Resumed}
use Rattle.world_hosting.specs.Suiting.{RecordSuits}
use Rattle.world_hosting.specs.Worlds.{AreToldFrom, Part, TellsPartFrom, TellsWorldFrom, part_names, world_program, world_programs}

-- ---- one program

-- the record of a program that isn't at a pause
abbrev pub unpaused_record : (ended : Bool) → ProgramRecord
unpaused_record true = over
unpaused_record false = fresh

-- a paused program's memory has the pages that its record tells
abbrev pub IsWhole : ProgramRecord → Type 0
IsWhole fresh = Unit {0}
IsWhole (paused due x memory) = length memory ≡ x.pages * page_size
IsWhole over = Unit {0}

-- The program has told nothing yet of a program of a world from where that begins, and is due when it is; or it is marked as one that has
-- ended, which the world's then has.
abbrev pub GoesOn : W.Program → Program → (due : ℕ) → (marked : Bool) → Type 0
GoesOn w program due marked =
    MatchBool marked (w.origin ≡ gone) ((is_gone w ≡ false) × Follows w [] [] program × (lines_left program ≡ answers_from w.answers w.origin) × (due ≡ due_from w.origin))

-- A program of a script that stands for its record: it goes on from there, before the tick 2^62, and has the names of its lines and what
-- is shown behind its end.
pub record IsResumedAt (x : Part) (r : ProgramRecord) (z : Resumed) : Type 0 where
  pub goes : GoesOn (from_record (world_program x) r) z.staged.program z.due z.ended
  pub early : z.due < 2 ^ 62
  pub names : names_of z.staged.names ≡ part_names x
  pub shows : map show_of z.staged.shows.items ≡ x.text.shows

-- What putting a program back answers: the program that stands for the record, where that suits it, else that it doesn't; want of memory may
-- come always.
abbrev pub Resumes : Part → ProgramRecord → Result Resumed ThawFault → Type 0
Resumes x r (Ok z) = RecordSuits (world_program x) r × IsResumedAt x r z
Resumes x r (Err T.Unfit) = RecordSuits (world_program x) r → ⊥
Resumes x r (Err T.Memory) = Unit {0}

-- ---- all of them

-- the programs of a script, in order, each by its record
abbrev pub AreResumedAt : List Part → List ProgramRecord → List Resumed → Type 0
AreResumedAt [] [] [] = Unit {0}
AreResumedAt (x ∷ xs) (r ∷ rs) (z ∷ zs) = IsResumedAt x r z × AreResumedAt xs rs zs
AreResumedAt _ _ _ = ⊥

-- The text tells the programs as they go on from a snapshot: a whole run of the protocol world behind its events, and the last line, which counts
-- all events.
abbrev pub AreContinued : List Part → Snapshot → List Detach → (old new : List Counted) → List ℕ → Type 0
AreContinued parts s = AreToldFrom s.events (From s (world_programs parts)) parts

-- A whole such text came behind what was printed.
abbrev pub Continues : List Part → Snapshot → List Detach → (cs cs' : List Counted) → (old new : Option (List ℕ)) → Type 0
Continues parts s = TellsWorldFrom s.events (From s (world_programs parts)) parts

-- A beginning of a whole such text came behind what was printed.
abbrev pub ContinuesPart : PutFault → List Part → Snapshot → List Detach → (cs cs' : List Counted) → (old new : Option (List ℕ)) → Type 0
ContinuesPart fault parts s = TellsPartFrom fault s.events (From s (world_programs parts)) parts
