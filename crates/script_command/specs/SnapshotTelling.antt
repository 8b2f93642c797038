-- What a call tells, whole, in part, or not at all, and what it leaves.
use Rattle.std.specs.Prelude.{◌≡◌, ◌⊎◌, ◌≤◌, ◌<◌, ℕ, suc, List, [], length, Option, None}
use Rattle.vault_port.specs.Counts.{FailsOnce}
use Rattle.vault_port.specs.Files.{CannotRead, ChangesOnly, Files, HoldsFrontAtMost}
use Rattle.vault_port.specs.Told.{Becomes}
use Rattle.vault_port.specs.declared.whole.PutFault.{PutFault}
use Rattle.script_model.specs.Transcript.{Refusal, read_fault, refusal_line, snapshot_limit, snapshot_refused, write_fault}
use Rattle.wasm_reader.specs.Held.{Holds}
use Rattle.snapshot_store.specs.Snapshots.{Snapshot, SnapText, snapshot_bytes}
use Rattle.world_model.specs.World.{Program}
use Rattle.world_laws.specs.Snapshots.{From}
use Rattle.script_command.specs.Playing.{detaches_in}
use Rattle.world_hosting.specs.Continued.{AreContinued}
use Rattle.world_hosting.specs.Saved.{AreSaved}
use Rattle.world_hosting.specs.Suiting.{SnapshotSuits}
use Rattle.world_hosting.specs.Worlds.{AreBegun, AreBegunFrom, AreEndedFrom, world_programs}
use Rattle.script_command.specs.SnapshotCalls.{Call, Deed, continues, saves}
use Rattle.script_command.specs.PlainScripts as S
use Rattle.script_command.specs.PlainScripts.{IsRead, IsUnplayed, Play, program_for, refusal_for}

-- a snapshot has at most so many bytes
abbrev pub most_bytes : ℕ
most_bytes = 268435456

-- ---- snapshots in files

-- The file holds a snapshot that fits these programs.
pub record HoldsSnapshot (files : Option Files) (name : List ℕ) (programs : List Program) (s : Snapshot) : Type 0 where
  pub bytes : List ℕ
  pub holds : Holds files name bytes
  pub few : length bytes ≤ most_bytes
  pub spells : SnapText bytes s
  pub suits : SnapshotSuits programs s

-- It holds bytes, not too many, that spell no snapshot which fits them.
pub record HoldsNone (files : Option Files) (name : List ℕ) (programs : List Program) : Type 0 where
  pub bytes : List ℕ
  pub holds : Holds files name bytes
  pub few : length bytes ≤ most_bytes
  pub none : (s : Snapshot) → SnapText bytes s → SnapshotSuits programs s → ⊥

-- It holds too many bytes.
pub record HoldsMore (files : Option Files) (name : List ℕ) : Type 0 where
  pub bytes : List ℕ
  pub holds : Holds files name bytes
  pub more : most_bytes < length bytes

-- ---- what is told

-- the programs of a world, from their start on
abbrev pub programs_of : {files : Option Files} {name : List ℕ} → Play files name → List Program
programs_of play = world_programs play.run.parts

-- The text tells the first events, so many or all where there are fewer, and this is the snapshot of what stands behind them.
pub record IsPlayed (most : ℕ) (c : Call) (text : List ℕ) (s : Snapshot) : Type 0 where
  pub play : Play c.files c.script
  pub told : AreSaved play.run.parts (detaches_in play.run.whole) c.devices c.devices' most text s

-- Some of its first lines, of which all but the last have so many bytes, or all have.
pub record IsPlayedPart (fault : PutFault) (most : ℕ) (c : Call) (least : ℕ) (text : List ℕ) : Type 0 where
  pub play : Play c.files c.script
  pub told : AreBegun fault play.run.parts (detaches_in play.run.whole) c.devices c.devices' least text
  pub few : told.begun ≤ most

-- The text tells what comes behind the snapshot in the file, to the programs' ends.
pub record IsContinued (c : Call) (text : List ℕ) : Type 0 where
  pub play : Play c.files c.script
  pub snapshot : Snapshot
  pub holds : HoldsSnapshot c.files c.snap (programs_of play) snapshot
  pub told : AreContinued play.run.parts snapshot (detaches_in play.run.whole) c.devices c.devices' text

-- Some of its first lines, or all, likewise.
pub record IsContinuedPart (fault : PutFault) (c : Call) (least : ℕ) (text : List ℕ) : Type 0 where
  pub play : Play c.files c.script
  pub snapshot : Snapshot
  pub holds : HoldsSnapshot c.files c.snap (programs_of play) snapshot
  pub told : AreBegunFrom fault snapshot.events (From snapshot (programs_of play)) play.run.parts (detaches_in play.run.whole) c.devices c.devices' least text
      ⊎ AreEndedFrom snapshot.events (From snapshot (programs_of play)) play.run.parts (detaches_in play.run.whole) c.devices c.devices' least text

-- The whole text; and then the snapshot's file alone has changed, and spells that of what was played, or no file has changed.
abbrev pub IsDone : Deed → Call → (text : List ℕ) → Type 0
IsDone (saves most) c text =
    (s : Snapshot) × IsPlayed most c text s × SnapText (snapshot_bytes s) s × (length (snapshot_bytes s) ≤ most_bytes)
    × Becomes c.files c.files' (ChangesOnly c.snap (snapshot_bytes s))
IsDone continues c text = IsContinued c text × (c.files' ≡ c.files)

-- first lines of it, up to a fault; no file has changed
abbrev pub IsPart : PutFault → Deed → Call → (least : ℕ) → (text : List ℕ) → Type 0
IsPart fault (saves most) c least text = IsPlayedPart fault most c least text × (c.files' ≡ c.files)
IsPart fault continues c least text = IsContinuedPart fault c least text × (c.files' ≡ c.files)

-- all lines of what is saved, of which no file is sure to hold more than some first bytes
abbrev pub IsCut : Deed → Call → (text : List ℕ) → Type 0
IsCut (saves most) c text =
    (s : Snapshot) × IsPlayed most c text s × (length (snapshot_bytes s) ≤ most_bytes) × Becomes c.files c.files' (HoldsFrontAtMost c.snap (snapshot_bytes s))
IsCut continues c text = ⊥

-- Nothing is told, no device is taken out, and no file has changed.
pub record LeavesAll (c : Call) (text : List ℕ) : Type 0 where
  pub none : text ≡ []
  pub devices : c.devices' ≡ c.devices
  pub files : c.files' ≡ c.files

-- ---- refusals

-- the script isn't played; a file couldn't be read; the snapshot is so long; it couldn't be written; or it doesn't fit
pub data Cause : Type 0 where
  unplayed : (cause : S.Cause) → Cause
  unread : (name : List ℕ) → Cause
  long : (found : ℕ) → Cause
  unwritten unfit : Cause

-- what is told of a cause
abbrev pub refusal_in : Call → Cause → Refusal
refusal_in c (unplayed cause) = refusal_for cause
refusal_in c (unread name) = read_fault name
refusal_in c (long found) = snapshot_limit found
refusal_in c unwritten = write_fault c.snap
refusal_in c unfit = snapshot_refused

-- the program that it names
abbrev pub program_in : Cause → Option ℕ
program_in (unplayed cause) = program_for cause
program_in _ = None

-- its line
abbrev pub cause_line : Call → Cause → List ℕ
cause_line c cause = refusal_line (program_in cause) (refusal_in c cause)

-- Files for which a call is refused, each behind those before it: those of a script that isn't played; to go on, a snapshot that is too
-- long, of which one byte more is looked at than there may be, or that doesn't fit.
abbrev pub IsRefused : Deed → Option Files → (name snap : List ℕ) → Cause → Type 0
IsRefused deed files name snap (unplayed cause) = IsUnplayed files name cause
IsRefused continues files name snap (long found) = Play files name × HoldsMore files snap × (found ≡ suc most_bytes)
IsRefused continues files name snap unfit = (play : Play files name) × HoldsNone files snap (programs_of play)
IsRefused deed files name snap _ = ⊥

-- a file that is read: for the script; or the snapshot that a script which can be played goes on from
abbrev pub IsReadBy : Deed → Call → (read : List ℕ) → Type 0
IsReadBy (saves most) c read = IsRead c.files c.script read
IsReadBy continues c read = IsRead c.files c.script read ⊎ (Play c.files c.script × (read ≡ c.snap))

-- Why a call is refused, and what it has told before: all events where what is to be saved is too long or can't be written, else nothing.
-- The snapshot's file is as before or holds some first bytes, where it couldn't be written; no other file has changed.
abbrev pub IsCause : Deed → Call → Cause → (text : List ℕ) → Type 0
IsCause deed c (unread name) text = IsReadBy deed c name × CannotRead c.files name c.fetch_faults c.fetch_faults' × LeavesAll c text
IsCause (saves most) c (long found) text =
    (s : Snapshot) × IsPlayed most c text s × (found ≡ length (snapshot_bytes s)) × (most_bytes < found) × (c.files' ≡ c.files)
IsCause (saves most) c unwritten text = IsCut (saves most) c text × FailsOnce c.save_faults c.save_faults'
IsCause deed c cause text = IsRefused deed c.files c.script c.snap cause × LeavesAll c text
