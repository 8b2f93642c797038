-- Which answer a call of a command that plays a script has, where the files are told.
use Rattle.std.specs.Prelude.{◌≡◌, ◌⊎◌, ℕ, Some}
use Rattle.vault_port.specs.Counts.{FailsOnce}
use Rattle.vault_port.specs.Files.{Files}
use Rattle.script_command.specs.Playing.{Cause, IsRefused, Play}
use Rattle.script_command.specs.Ends.{Call, End, HasEnd, done, memory, refused, read_fault_of}

-- no call has failed
pub record NothingFails (c : Call) : Type 0 where
  pub fetches : FailsOnce c.fetch_faults c.fetch_faults' → ⊥
  pub puts : FailsOnce c.sink_faults c.sink_faults' → ⊥

-- a fault of reading
abbrev pub IsReadFault : End → Type 0
IsReadFault (read_fault_of name) = Unit {0}
IsReadFault _ = ⊥

-- The end of a call whose script is refused for a cause is that refusal, whose line is printed, unless a fetch failed first; and that of a
-- call whose script can be played, where nothing fails, is its transcript: all but for want of memory. (A script of which a file isn't
-- there is neither played nor refused for what stands behind it.)
pub record IsAnswer (c : Call) (which : End) : Type 0 where
  pub refusals : (all : Files) (cause : Cause) → c.files ≡ Some all → IsRefused c.way (Some all) c.name cause → (which ≡ refused cause) ⊎ (which ≡ memory)
      ⊎ (IsReadFault which × FailsOnce c.fetch_faults c.fetch_faults')
  pub accepted : (all : Files) → c.files ≡ Some all → Play c.way (Some all) c.name → NothingFails c → (which ≡ done) ⊎ (which ≡ memory)

-- The call has one end, with its reason, and that is its answer.
pub record HasOneEnd (c : Call) (status : ℕ) : Type 0 where
  pub end : HasEnd c status
  pub answer : IsAnswer c end.which
