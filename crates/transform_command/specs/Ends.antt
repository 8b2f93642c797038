-- How a call of `transform` ends, and why: in one piece.
use Rattle.std.specs.Prelude.{◌≡◌, ◌⊎◌, ℕ, List, Option, Some, None, IsSome}
use Rattle.vault_port.specs.Counts.{FailsOnce}
use Rattle.vault_port.specs.Files.{Files, bytes_of, CannotRead}
use Rattle.vault_port.specs.Told.{WhereTold, Becomes}
use Rattle.script_model.specs.Command.{Manner}
use Rattle.transcript.specs.Refused.{status_of}
use Rattle.transform_command.specs.Sources.{Cause, IsRefusedIn, long_output, refusal_for, IsTransformed}
use Rattle.transform_command.specs.Transforms.{HoldsRewritable, HoldsSource}

-- How a call ends.
pub data End : Type 0 where
  done memory read_fault write_fault sink_fault : End
  refused : (cause : Cause) → End

-- the status of an end
abbrev pub status_of_end : End → ℕ
status_of_end done = 0
status_of_end (refused cause) = status_of (refusal_for cause)
status_of_end memory = 9
status_of_end read_fault = 10
status_of_end write_fault = 11
status_of_end sink_fault = 12

-- a call: the manner of rewriting and its two files, the files and the counts of faults before and after it
pub record Call : Type 0 where
  pub manner : Manner
  pub input : List ℕ
  pub output : List ℕ
  pub files : Option Files
  pub files' : Option Files
  pub fetch_faults : ℕ
  pub fetch_faults' : ℕ
  pub save_faults : ℕ
  pub save_faults' : ℕ
  pub sink_faults : ℕ
  pub sink_faults' : ℕ

-- why a call has this end
abbrev pub IsWhy : Call → End → Type 0
IsWhy c memory = Unit {0}
IsWhy c read_fault = CannotRead c.files c.input c.fetch_faults c.fetch_faults'
IsWhy c (refused cause) = WhereTold c.files (λ all. IsRefusedIn c.manner (bytes_of all c.input) cause)
IsWhy c write_fault = FailsOnce c.save_faults c.save_faults' × WhereTold c.files (λ all. HoldsSource c.manner (bytes_of all c.input))
IsWhy c sink_fault = FailsOnce c.sink_faults c.sink_faults' × Becomes c.files c.files' (IsTransformed c.manner c.input c.output)
IsWhy c done = Becomes c.files c.files' (IsTransformed c.manner c.input c.output)

-- P of what is told, and it is told
abbrev pub ToldThat : {A : Type 0} → Option A → (A → Type 0) → Type 0
ToldThat None P = ⊥
ToldThat (Some told) P = P told

-- no call has failed
pub record NothingFails (c : Call) : Type 0 where
  pub fetches : FailsOnce c.fetch_faults c.fetch_faults' → ⊥
  pub saves : FailsOnce c.save_faults c.save_faults' → ⊥
  pub puts : FailsOnce c.sink_faults c.sink_faults' → ⊥

-- a module that is that of IN, rewritten, is too long; another needn't be
abbrev pub IsLong : Cause → Type 0
IsLong (long_output found) = Unit {0}
IsLong _ = ⊥

-- IN is refused for that
abbrev pub CanBeLong : Call → Type 0
CanBeLong c = ToldThat c.files (λ all. (found : ℕ) × IsRefusedIn c.manner (bytes_of all c.input) (long_output found))

-- The call has one end, by its status, and the reason for it. Where the content of IN is told, a cause for which it is refused has
-- that status, and a source that can be rewritten is written where nothing fails: all but for want of memory, for a fault of reading,
-- which comes first, and for a rewritten module that is too long where another isn't.
pub record HasOneEnd (c : Call) (status : ℕ) : Type 0 where
  pub which : End
  pub by_status : status ≡ status_of_end which
  pub why : IsWhy c which
  pub refusals : (cause : Cause)
      → ToldThat c.files (λ all. IsRefusedIn c.manner (bytes_of all c.input) cause)
      → (status ≡ status_of (refusal_for cause)) ⊎ (status ≡ 9) ⊎ (status ≡ 10) ⊎ (IsLong cause × ((status ≡ 0) ⊎ (status ≡ 11) ⊎ (status ≡ 12)))
  pub accepted : ToldThat c.files (λ all. IsSome (all c.input) × HoldsRewritable c.manner (bytes_of all c.input))
      → NothingFails c → (status ≡ 0) ⊎ (status ≡ 9) ⊎ ((status ≡ 6) × CanBeLong c)

-- the status of a refusal of IN
abbrev pub IsRefusal : ℕ → Type 0
IsRefusal n = (cause : Cause) × (n ≡ status_of (refusal_for cause))
