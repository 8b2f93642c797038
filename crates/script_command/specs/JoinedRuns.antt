-- A script that is saved and then gone on with, as one run of the originals of its programs.
use Rattle.std.specs.Prelude.{◌≡◌, ℕ, List, ◌++◌, length, All, Some, slice_get}
use Rattle.std.specs.List.{AllZip}
use Rattle.vault_port.specs.Files.{Files}
use Rattle.wa_model.specs.Outside.{Line}
use Rattle.wa_model.specs.Plan.{Outcome}
use Rattle.wa_model.specs.Untouched.{Untouched}
use Rattle.world_model.specs.World.{Actor, BlockingWorld, Device, Original}
use Rattle.script_model.specs.Script.{ProgramText, Script}
use Rattle.script_model.specs.Transcript.{Transcript}
use Rattle.world_laws.specs.Originals.{met}
use Rattle.many_host.specs.Calls.{devices_of}
use Rattle.snapshot_store.specs.Snapshots.{snapshot_bytes}
use Rattle.world_hosting.specs.OriginalRuns.{Source, originals_for}
use Rattle.world_hosting.specs.Worlds.{turn_count}
use Rattle.script_command.specs.Playing.{detaches_in}
use Rattle.script_command.specs.RunOriginals.{IsSource, original_names}
use Rattle.script_command.specs.SnapshotCalls.{Call, continues, saves}
use Rattle.script_command.specs.SnapshotTelling.{IsContinued, IsDone, IsPlayed}

-- The second files hold the script, and the module of each of its programs, as the first ones do.
pub record HoldAlike (files files' : Files) (name : List ℕ) (whole : Script) : Type 0 where
  pub script : files' name ≡ files name
  pub modules : All (λ (t : ProgramText). files' t.path ≡ files t.path) whole.programs

-- Both calls were done. The first one has played so many events of a script, or all where there are fewer, told them by the first text, and
-- saved what stands behind them; the second one has gone on from there with the same script and modules, and told the rest by the second text.
pub record GoesOnWith (most : ℕ) (c c' : Call) (text text' : List ℕ) : Type 0 where
  pub saved : IsDone (saves most) c text
  pub continued : IsDone continues c' text'
  pub files : Files
  pub files' : Files
  pub first : c.files ≡ Some files
  pub second : c'.files ≡ Some files'
  pub script : c'.script ≡ c.script
  pub alike : HoldAlike files files' c.script saved.1.play.run.whole
  pub snap : files' c'.snap ≡ Some (snapshot_bytes saved.0)

-- what the first call has told, and what the second one has
abbrev pub played : {most : ℕ} {c c' : Call} {text text' : List ℕ} (h : GoesOnWith most c c' text text') → IsPlayed most c text h.saved.0
played h = h.saved.1

abbrev pub rest : {most : ℕ} {c c' : Call} {text text' : List ℕ} → GoesOnWith most c c' text text' → IsContinued c' text'
rest h = h.continued.0

-- the lines of both
abbrev pub all_lines : {most : ℕ} {c c' : Call} {text text' : List ℕ} → GoesOnWith most c c' text text' → List Line
all_lines h = (played h).told.lines ++ (rest h).told.lines

-- Each original touches no byte of its area, within its steps, with the outcomes that its calls met up to the save and then those that they
-- met behind it.
abbrev pub StayOff : List Original → (was now next : List Actor) → Type 0
StayOff originals was now next =
    (i : ℕ) (o : Original) (a b c : Actor) → slice_get originals i ≡ Some o → slice_get was i ≡ Some a → slice_get now i ≡ Some b → slice_get next i ≡ Some c
    → (before : List Outcome) → a.outcomes ≡ before ++ b.outcomes → Untouched o.program.source o.program.plan (before ++ met c) o.program.steps

-- The files hold the originals of the programs. Where each of them stays off its area, the lines of both calls are those of one run of their
-- blocking world, from the devices of the first call on, and the two texts joined are its transcript, with the originals' own names. The
-- devices of the second call are left, where it had those that the first one left.
pub record IsOneRun {most : ℕ} {c c' : Call} {text text' : List ℕ} (h : GoesOnWith most c c' text text') : Type 0 where
  pub sources : List Source
  pub are_sources : AllZip (IsSource c.files) sources (played h).play.run.parts
  pub one : StayOff (originals_for sources (played h).play.run.parts) (played h).told.world.actors (played h).told.world.now (rest h).told.world.actors
      → (last : List Device)
      × BlockingWorld (originals_for sources (played h).play.run.parts) (detaches_in (played h).play.run.whole) (devices_of c.devices) (all_lines h) last
      × (devices_of c'.devices ≡ devices_of c.devices' → last ≡ devices_of c'.devices')
      × (text ++ text' ≡ Transcript (original_names sources (played h).play.run.parts) (length sources) (turn_count (all_lines h)) (all_lines h))

-- What is saved and gone on with is one run of the originals.
abbrev pub JoinedRunsAreOfOriginals : Type 0
JoinedRunsAreOfOriginals = (most : ℕ) (c c' : Call) (text text' : List ℕ) (h : GoesOnWith most c c' text text') → IsOneRun h
