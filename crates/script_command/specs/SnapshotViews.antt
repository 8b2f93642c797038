-- What the steps of a call answer.
use Rattle.std.specs.Prelude.{◌≡◌, ◌≢◌, ◌⊎◌, ◌≤◌, ◌<◌, ℕ, suc, List, length, Option, Some, None, Result, Ok, Err}
use Rattle.std.specs.List.{AllZip}
use Rattle.vault_port.specs.Counts.{FailsAtMostOnce, FailsOnce}
use Rattle.vault_port.specs.Files.{CannotRead, ChangesOnly, Files, HoldsFrontAtMost}
use Rattle.vault_port.specs.Taken.{Appends}
use Rattle.vault_port.specs.Told.{Becomes}
use Rattle.vault_port.specs.declared.whole.PutFault.{PutFault}
use Rattle.vault_port.specs.declared.whole.PutFault.TheVariants as F
use Rattle.script_model.specs.Transcript.{Refusal, refusal_line, read_fault, snapshot_limit, snapshot_refused, write_fault}
use Rattle.transcript.specs.Printing.{refusal_of}
use Rattle.transcript.specs.Refused.{EndsInMemory, Prints, PrintsMemory, status_of}
use Rattle.transcript.specs.declared.refusals.RefusalKind.{RefusalKind}
use Rattle.transcript.specs.declared.refusals.RefusalKind.TheVariants as K
use Rattle.wasm_reader.specs.Held.{Holds}
use Rattle.snapshot_store.specs.Snapshots.{ProgramRecord, Snapshot, SnapText, snapshot_bytes}
use Rattle.pause_host.specs.declared.faults.ThawFault.{ThawFault}
use Rattle.pause_host.specs.declared.faults.ThawFault.TheVariants as W
use Rattle.script_command.specs.declared.opening.Opened.{Opened}
use Rattle.script_command.specs.Playing.{detaches_in}
use Rattle.script_command.specs.Views.{StopsFor, parts_of}
use Rattle.world_hosting.specs.Continued.{AreResumedAt}
use Rattle.world_hosting.specs.Suiting.{RecordSuits, SnapshotSuits}
use Rattle.world_hosting.specs.Worlds.{Part, PrintsPart, world_programs}
use Rattle.world_hosting.specs.declared.resuming.Resumed.{Resumed}
use Rattle.script_command.specs.declared.stop.Stop.{Stop}
use Rattle.script_command.specs.declared.stop.Stop.TheVariants as T
use Rattle.script_command.specs.SnapshotCalls.{Call, Deed, Output}
use Rattle.script_command.specs.PlainScripts as S
use Rattle.script_command.specs.PlainScripts.{IsRead, IsUnplayed, Play, program_for, refusal_for}
use Rattle.script_command.specs.SnapshotTelling.{Cause, HoldsMore, IsCause, IsDone, most_bytes, program_in, refusal_in}
use Rattle.script_command.specs.SnapshotEnds.{IsLine, IsWhy, sink_fault}

-- ---- scripts

-- What a script without a `device`, `mailbox` or `strand` line opens.
pub record Opens (files : Option Files) (name : List ℕ) (o : Opened) : Type 0 where
  pub play : Play files name
  pub parts_are : play.run.parts ≡ parts_of o.programs.modules.items o.programs.planned.items
  pub detaches_are : detaches_in play.run.whole ≡ o.detaches.items

-- why it isn't opened
abbrev pub Blames : Option Files → (faults faults' : ℕ) → (name : List ℕ) → Stop → Type 0
Blames files faults faults' name stop =
    StopsFor (λ r. (cause : S.Cause) × IsUnplayed files name cause × (r.program ≡ program_for cause) × (refusal_of r.kind ≡ refusal_for cause)) (IsRead files name) files faults faults' stop

-- ---- snapshots

-- The file holds these bytes of a snapshot, not too many.
pub record Holding (files : Option Files) (name : List ℕ) (s : Snapshot) : Type 0 where
  pub bytes : List ℕ
  pub holds : Holds files name bytes
  pub few : length bytes ≤ most_bytes
  pub spells : SnapText bytes s

-- It holds bytes, not too many, that spell none.
pub record HoldsNoText (files : Option Files) (name : List ℕ) : Type 0 where
  pub bytes : List ℕ
  pub holds : Holds files name bytes
  pub few : length bytes ≤ most_bytes
  pub none : (s : Snapshot) → SnapText bytes s → ⊥

-- these bytes, the front of a file, spell the snapshot, and aren't too many
pub record IsText (bytes : List ℕ) (s : Snapshot) : Type 0 where
  pub few : length bytes ≤ most_bytes
  pub spells : SnapText bytes s

-- why they are none: they are too many, or spell none
abbrev pub NoText : (bytes : List ℕ) → Stop → Type 0
NoText bytes T.Memory = Unit {0}
NoText bytes T.Sink = ⊥
NoText bytes (T.Refused r) =
    (r.program ≡ None)
    × (((refusal_of r.kind ≡ snapshot_limit (suc most_bytes)) × (most_bytes < length bytes))
    ⊎ ((refusal_of r.kind ≡ snapshot_refused) × (length bytes ≤ most_bytes) × ((s : Snapshot) → SnapText bytes s → ⊥)))

-- why no snapshot is there
abbrev pub NoSnapshot : Option Files → (faults faults' : ℕ) → (name : List ℕ) → Stop → Type 0
NoSnapshot files faults faults' name T.Memory = Unit {0}
NoSnapshot files faults faults' name T.Sink = ⊥
NoSnapshot files faults faults' name (T.Refused r) =
    (r.program ≡ None)
    × (((refusal_of r.kind ≡ read_fault name) × CannotRead files name faults faults')
    ⊎ ((refusal_of r.kind ≡ snapshot_limit (suc most_bytes)) × HoldsMore files name × (faults' ≡ faults))
    ⊎ ((refusal_of r.kind ≡ snapshot_refused) × HoldsNoText files name × (faults' ≡ faults)))

-- a file of this name couldn't be written
abbrev pub IsUnwritten : (name : List ℕ) → Stop → Type 0
IsUnwritten name T.Memory = Unit {0}
IsUnwritten name T.Sink = ⊥
IsUnwritten name (T.Refused r) = (r.program ≡ None) × (refusal_of r.kind ≡ write_fault name)

-- Each program stands for its record, which suits it.
pub record StandForEach (parts : List Part) (records : List ProgramRecord) (resumed : List Resumed) : Type 0 where
  pub suit : AllZip RecordSuits (world_programs parts) records
  pub are : AreResumedAt parts records resumed

-- The programs stand for a snapshot that fits them.
pub record StandFor (parts : List Part) (s : Snapshot) (resumed : List Resumed) : Type 0 where
  pub suits : SnapshotSuits (world_programs parts) s
  pub are : AreResumedAt parts s.programs resumed

-- What writing a snapshot leaves: its file, or that it is too long, or couldn't be written.
abbrev pub Writes : Snapshot → (name : List ℕ) → (files files' : Option Files) → (faults faults' : ℕ) → Result (Unit {0}) Stop → Type 0
Writes s name files files' faults faults' (Ok done) =
    SnapText (snapshot_bytes s) s × (length (snapshot_bytes s) ≤ most_bytes) × Becomes files files' (ChangesOnly name (snapshot_bytes s)) × (faults' ≡ faults)
Writes s name files files' faults faults' (Err T.Memory) =
    (length (snapshot_bytes s) ≤ most_bytes) × Becomes files files' (HoldsFrontAtMost name (snapshot_bytes s)) × FailsAtMostOnce faults faults'
Writes s name files files' faults faults' (Err T.Sink) = ⊥
Writes s name files files' faults faults' (Err (T.Refused r)) =
    (r.program ≡ None)
    × (((refusal_of r.kind ≡ snapshot_limit (length (snapshot_bytes s))) × (most_bytes < length (snapshot_bytes s)) × (files' ≡ files) × (faults' ≡ faults))
    ⊎ ((refusal_of r.kind ≡ write_fault name) × (length (snapshot_bytes s) ≤ most_bytes) × Becomes files files' (HoldsFrontAtMost name (snapshot_bytes s))
    × FailsOnce faults faults'))

-- ---- why a call stops

-- a refusal that names no program
abbrev pub refused_for : RefusalKind → Stop
refused_for kind = T.Refused (record { program = None; kind = kind })

-- .. one of the module of a program
abbrev pub refused_module : (number : ℕ) → RefusalKind → Stop
refused_module number kind = T.Refused (record { program = Some number; kind = kind })

-- the stop of lines that weren't printed
abbrev pub stop_by : PutFault → Stop
stop_by F.Fault = T.Sink
stop_by F.Memory = T.Memory

-- the stop of programs that weren't put back
abbrev pub thaw_stop : ThawFault → Stop
thaw_stop W.Memory = T.Memory
thaw_stop W.Unfit = refused_for K.SnapshotRefused

-- its status
abbrev pub status_of_stop : Stop → ℕ
status_of_stop T.Memory = 9
status_of_stop T.Sink = 12
status_of_stop (T.Refused r) = status_of (refusal_of r.kind)

-- .. or 0
abbrev pub status_by : Result (Unit {0}) Stop → ℕ
status_by (Ok done) = 0
status_by (Err stop) = status_of_stop stop

-- a refusal that is told isn't that memory is wanting
abbrev pub IsToldStop : Stop → Type 0
IsToldStop (T.Refused r) = status_of (refusal_of r.kind) ≢ 9
IsToldStop _ = Unit {0}

-- it comes while lines are printed
abbrev pub IsPutStop : Stop → Type 0
IsPutStop (T.Refused r) = ⊥
IsPutStop _ = Unit {0}

-- Why a call stops, behind what was printed: memory is wanting, and its line, or that of the refusal, is still to be printed; or the sink failed.
abbrev pub Stops : Deed → Call → Output → Stop → Type 0
Stops deed c o T.Memory = (least : ℕ) × (line : List ℕ) × IsLine deed c least line × Becomes o.taken o.taken' (PrintsPart F.Memory least line) × (o.faults' ≡ o.faults)
Stops deed c o T.Sink = IsWhy deed c o sink_fault
Stops deed c o (T.Refused r) =
    (cause : Cause) × (text : List ℕ) × IsCause deed c cause text × (r.program ≡ program_in cause) × (refusal_of r.kind ≡ refusal_in c cause)
    × Becomes o.taken o.taken' (Appends text) × (o.faults' ≡ o.faults)

-- it is done, or stops
abbrev pub Does : Deed → Call → Output → Result (Unit {0}) Stop → Type 0
Does deed c o (Ok done) = (text : List ℕ) × IsDone deed c text × Becomes o.taken o.taken' (Appends text) × (o.faults' ≡ o.faults)
Does deed c o (Err stop) = Stops deed c o stop

-- What is printed of a refusal, and the status: its line, or some of it and that memory is wanting.
abbrev pub TellsLine : Option ℕ → Refusal → (status : ℕ) → Output → Type 0
TellsLine program r status o =
    ((status ≡ status_of r) × Becomes o.taken o.taken' (Prints (refusal_line program r) o.faults o.faults'))
    ⊎ ((status ≡ 9) × Becomes o.taken o.taken' (PrintsMemory (refusal_line program r) o.faults o.faults'))

-- .. of a stop
abbrev pub Tells : Stop → (status : ℕ) → Output → Type 0
Tells T.Memory status o = (status ≡ 9) × Becomes o.taken o.taken' (EndsInMemory o.faults o.faults')
Tells T.Sink status o = (status ≡ 12) × (o.taken' ≡ o.taken) × (o.faults' ≡ o.faults)
Tells (T.Refused r) status o = TellsLine r.program (refusal_of r.kind) status o
