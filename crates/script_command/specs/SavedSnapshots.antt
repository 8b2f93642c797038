-- What was saved can be gone on with.
use Rattle.std.specs.Prelude.{◌≡◌, ◌≤◌, ℕ, List, Some}
use Rattle.vault_port.specs.Files.{Files}
use Rattle.snapshot_store.specs.Snapshots.{snapshot_bytes}
use Rattle.world_hosting.specs.Suiting.{SnapshotSuits}
use Rattle.script_command.specs.JoinedRuns.{HoldAlike}
use Rattle.script_command.specs.SnapshotAnswers.{CanBeDone}
use Rattle.script_command.specs.SnapshotCalls.{Call, continues, saves}
use Rattle.script_command.specs.SnapshotTelling.{Cause, IsCause, IsDone, IsRefused, programs_of, unread}

-- A snapshot that was saved behind 1,000,000,000 events at most suits the programs of its script.
abbrev pub SavedSnapshotsSuit : Type 0
SavedSnapshotsSuit = (most : ℕ) (c : Call) (text : List ℕ) (saved : IsDone (saves most) c text) → most ≤ 1000000000 → SnapshotSuits (programs_of saved.1.play) saved.0

-- The first call was done, and has saved what stands behind its events, of which it was asked for 1,000,000,000 at most; the second one's files
-- hold those bytes as its snapshot, and the same script and modules.
pub record FindsSaved (most : ℕ) (c c' : Call) (text : List ℕ) : Type 0 where
  pub saved : IsDone (saves most) c text
  pub few : most ≤ 1000000000
  pub files : Files
  pub files' : Files
  pub first : c.files ≡ Some files
  pub second : c'.files ≡ Some files'
  pub script : c'.script ≡ c.script
  pub alike : HoldAlike files files' c.script saved.1.play.run.whole
  pub snap : files' c'.snap ≡ Some (snapshot_bytes saved.0)

-- Then the second call can go on, and there is no cause for which these files are refused: not as a script, nor as a snapshot that is too long or
-- doesn't fit. So where it is refused, a file wasn't read.
abbrev pub SavedSnapshotsAreTaken : Type 0
SavedSnapshotsAreTaken =
    (most : ℕ) (c c' : Call) (text : List ℕ) (h : FindsSaved most c c' text)
    → CanBeDone continues c' h.files' × ((cause : Cause) → IsRefused continues (Some h.files') c'.script c'.snap cause → ⊥)
    × ((cause : Cause) (text' : List ℕ) → IsCause continues c' cause text' → (read : List ℕ) × (cause ≡ unread read))
