-- Which answer a call of a command on snapshots has, where the files are told.
use Rattle.std.specs.Prelude.{◌≡◌, ◌⊎◌, ℕ, Some}
use Rattle.vault_port.specs.Counts.{FailsOnce}
use Rattle.vault_port.specs.Files.{Files}
use Rattle.snapshot_store.specs.Snapshots.{Snapshot}
use Rattle.script_command.specs.SnapshotCalls.{Call, Deed, Output, continues, saves}
use Rattle.script_command.specs.PlainScripts.{Play}
use Rattle.script_command.specs.SnapshotTelling.{Cause, HoldsSnapshot, IsRefused, long, programs_of, unread}
use Rattle.script_command.specs.SnapshotEnds.{End, HasEnd, done, memory, refused}

-- no call has failed
pub record NothingFails (c : Call) (o : Output) : Type 0 where
  pub fetches : FailsOnce c.fetch_faults c.fetch_faults' → ⊥
  pub saves : FailsOnce c.save_faults c.save_faults' → ⊥
  pub puts : FailsOnce o.faults o.faults' → ⊥

-- a fault of reading
abbrev pub IsReadFault : End → Type 0
IsReadFault (refused (unread name)) = Unit {0}
IsReadFault _ = ⊥

-- what can be done: a script that can be played is saved; where the file holds a snapshot that fits it, it goes on
abbrev pub CanBeDone : Deed → Call → Files → Type 0
CanBeDone (saves most) c all = Play (Some all) c.script
CanBeDone continues c all = (play : Play (Some all) c.script) × (s : Snapshot) × HoldsSnapshot (Some all) c.snap (programs_of play) s

-- a snapshot that was to be saved is too long
abbrev pub IsLong : Deed → End → Type 0
IsLong (saves most) (refused (long found)) = Unit {0}
IsLong _ _ = ⊥

-- The end of a call whose files are refused for a cause is that refusal, whose line is printed, unless a fetch failed first; and that of a
-- call that can be done, where nothing fails, is that it is, but for a snapshot that is too long: all but for want of memory. (Where a file
-- isn't there, neither is said of what stands behind it.)
pub record IsAnswer (deed : Deed) (c : Call) (o : Output) (which : End) : Type 0 where
  pub refusals : (all : Files) (cause : Cause) → c.files ≡ Some all → IsRefused deed (Some all) c.script c.snap cause → (which ≡ refused cause) ⊎ (which ≡ memory)
      ⊎ (IsReadFault which × FailsOnce c.fetch_faults c.fetch_faults')
  pub accepted : (all : Files) → c.files ≡ Some all → CanBeDone deed c all → NothingFails c o → (which ≡ done) ⊎ (which ≡ memory) ⊎ IsLong deed which

-- The call has one end, with its reason, and that is its answer.
pub record HasOneEnd (deed : Deed) (c : Call) (o : Output) (status : ℕ) : Type 0 where
  pub end : HasEnd deed c o status
  pub answer : IsAnswer deed c o end.which
