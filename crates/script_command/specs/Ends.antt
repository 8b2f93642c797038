-- How a call of a command that plays a script ends, and why.
use Rattle.std.specs.Prelude.{◌≡◌, ◌⊎◌, ℕ, List, Option, Some, None}
use Rattle.vault_port.specs.Counts.{FailsOnce}
use Rattle.vault_port.specs.Files.{Files, CannotRead}
use Rattle.vault_port.specs.Taken.{Appends, AppendsPast}
use Rattle.vault_port.specs.Told.{Becomes}
use Rattle.vault_port.specs.declared.whole.PutFault.TheVariants.{Fault, Memory}
use Rattle.script_model.specs.Transcript.{read_fault, refusal_line}
use Rattle.event_order.specs.Left.{Counted}
use Rattle.transcript.specs.Refused.{status_of, Prints, PrintsMemoryPast}
use Rattle.script_command.specs.declared.way.Way.{Way}
use Rattle.script_command.specs.declared.way.Way.TheVariants.{Run}
use Rattle.script_command.specs.Playing.{Cause, bad_module, Play, IsRefused, IsRead, refusal_of_cause}
use Rattle.script_command.specs.Told.{IsBegun, IsTold}

-- A call: its way and its script; the files; the counts of faults, what the sink has taken and the devices, with their counts, before and after it. (The
-- files stay as they are.)
pub record Call : Type 0 where
  pub way : Way
  pub name : List ℕ
  pub files : Option Files
  pub fetch_faults : ℕ
  pub fetch_faults' : ℕ
  pub sink_faults : ℕ
  pub sink_faults' : ℕ
  pub taken : Option (List ℕ)
  pub taken' : Option (List ℕ)
  pub devices : List Counted
  pub devices' : List Counted

-- a call by these
abbrev pub call : Way → (script : List ℕ) → Option Files → (fetched fetched' put put' : ℕ) → (old new : Option (List ℕ)) → (ds ds' : List Counted) → Call
call way spelled all fetched fetched' put put' old new ds ds' = record {
  way = way;
  name = spelled;
  files = all;
  fetch_faults = fetched;
  fetch_faults' = fetched';
  sink_faults = put;
  sink_faults' = put';
  taken = old;
  taken' = new;
  devices = ds;
  devices' = ds';
}

-- How a call ends.
pub data End : Type 0 where
  done memory sink_fault : End
  refused : (cause : Cause) → End
  read_fault_of : (name : List ℕ) → End

-- a refusal of a program's module names the program
abbrev pub program_of_cause : Cause → Option ℕ
program_of_cause (bad_module number r) = Some number
program_of_cause _ = None

-- the line of a cause
abbrev pub cause_line : Cause → List ℕ
cause_line cause = refusal_line (program_of_cause cause) (refusal_of_cause cause)

-- the status of an end
abbrev pub status_of_end : End → ℕ
status_of_end done = 0
status_of_end (refused cause) = status_of (refusal_of_cause cause)
status_of_end memory = 9
status_of_end (read_fault_of name) = 10
status_of_end sink_fault = 12

-- lines that a call may have begun to print, so many of their bytes at least, with what became of the devices: of what is played; or of
-- a cause, or of a file that couldn't be read, and then they are as they were
abbrev pub IsLine : Call → (least : ℕ) → List ℕ → Type 0
IsLine c least line =
    ((play : Play c.way c.files c.name) × IsBegun Memory play c.devices c.devices' least line)
    ⊎ ((cause : Cause) × IsRefused c.way c.files c.name cause × (line ≡ cause_line cause) × (least ≡ 0) × (c.devices' ≡ c.devices))
    ⊎ ((read : List ℕ) × IsRead c.way c.files c.name read × (line ≡ refusal_line None (read_fault read)) × (least ≡ 0) × (c.devices' ≡ c.devices))

-- Why a call has this end, what was printed, and what became of the devices: what is played takes them from those that were there to
-- those that are left, and under `run` is told of the programs' originals; a refusal leaves them as they were.
abbrev pub IsWhy : Call → End → Type 0
IsWhy c done = (play : Play c.way c.files c.name) × (text : List ℕ) × IsTold play c.devices c.devices' text × Becomes c.taken c.taken' (Appends text)
IsWhy c (refused cause) =
    IsRefused c.way c.files c.name cause × Becomes c.taken c.taken' (Prints (cause_line cause) c.sink_faults c.sink_faults') × (c.devices' ≡ c.devices)
IsWhy c memory = (least : ℕ) × (line : List ℕ) × IsLine c least line × Becomes c.taken c.taken' (PrintsMemoryPast least line c.sink_faults c.sink_faults')
IsWhy c (read_fault_of read) =
    IsRead c.way c.files c.name read × CannotRead c.files read c.fetch_faults c.fetch_faults'
    × Becomes c.taken c.taken' (Prints (refusal_line None (read_fault read)) c.sink_faults c.sink_faults') × (c.devices' ≡ c.devices)
IsWhy c sink_fault =
    (play : Play c.way c.files c.name) × FailsOnce c.sink_faults c.sink_faults'
    × (least : ℕ) × (text : List ℕ) × IsBegun Fault play c.devices c.devices' least text × Becomes c.taken c.taken' (AppendsPast least text)

-- The call has one end, by its status, and the reason for it.
pub record HasEnd (c : Call) (status : ℕ) : Type 0 where
  pub which : End
  pub by_status : status ≡ status_of_end which
  pub why : IsWhy c which

-- the statuses that there are: a reserved name is refused under `run` alone
abbrev pub IsStatus : Way → ℕ → Type 0
IsStatus way n = (n ≡ 0) ⊎ (n ≡ 3) ⊎ (n ≡ 4) ⊎ (n ≡ 5) ⊎ (n ≡ 6) ⊎ ((n ≡ 7) × (way ≡ Run)) ⊎ (n ≡ 8) ⊎ (n ≡ 9) ⊎ (n ≡ 10) ⊎ (n ≡ 12)
