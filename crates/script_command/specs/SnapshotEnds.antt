-- How a call of a command on snapshots ends, and why.
use Rattle.std.specs.Prelude.{◌≡◌, ◌⊎◌, ◌++◌, ℕ, List, length}
use Rattle.vault_port.specs.Counts.{FailsOnce}
use Rattle.vault_port.specs.Taken.{Appends, AppendsPast}
use Rattle.vault_port.specs.Told.{Becomes}
use Rattle.vault_port.specs.declared.whole.PutFault.TheVariants.{Fault, Memory}
use Rattle.transcript.specs.Refused.{Prints, PrintsMemoryPast, status_of}
use Rattle.script_command.specs.SnapshotCalls.{Call, Deed, Output, continues, saves}
use Rattle.script_command.specs.SnapshotTelling.{Cause, IsCause, IsCut, IsDone, IsPart, LeavesAll, cause_line, refusal_in}

-- How a call ends.
pub data End : Type 0 where
  done memory sink_fault : End
  refused : (cause : Cause) → End

-- the status of an end
abbrev pub status_of_end : Call → End → ℕ
status_of_end c done = 0
status_of_end c (refused cause) = status_of (refusal_in c cause)
status_of_end c memory = 9
status_of_end c sink_fault = 12

-- lines that a call may have begun to print, so many of their bytes at least, with what it leaves: none; first lines of what it tells, or all
-- where they couldn't be saved; or the line of a cause behind what was told
abbrev pub IsLine : Deed → Call → (least : ℕ) → List ℕ → Type 0
IsLine deed c least line =
    (LeavesAll c line × (least ≡ 0))
    ⊎ IsPart Memory deed c least line
    ⊎ (IsCut deed c line × (least ≡ length line))
    ⊎ ((cause : Cause) × (text : List ℕ) × IsCause deed c cause text × (line ≡ text ++ cause_line c cause) × (least ≡ length text))

-- a line was printed behind a text; or less of it, where a put has failed
abbrev pub PrintsBehind : (text line : List ℕ) → (faults faults' : ℕ) → (old new : List ℕ) → Type 0
PrintsBehind text line faults faults' old new = Prints line faults faults' (old ++ text) new

-- Why a call has this end, what was printed, and what it leaves.
abbrev pub IsWhy : Deed → Call → Output → End → Type 0
IsWhy deed c o done = (text : List ℕ) × IsDone deed c text × Becomes o.taken o.taken' (Appends text)
IsWhy deed c o (refused cause) = (text : List ℕ) × IsCause deed c cause text × Becomes o.taken o.taken' (PrintsBehind text (cause_line c cause) o.faults o.faults')
IsWhy deed c o memory = (least : ℕ) × (line : List ℕ) × IsLine deed c least line × Becomes o.taken o.taken' (PrintsMemoryPast least line o.faults o.faults')
IsWhy deed c o sink_fault =
    (least : ℕ) × (text : List ℕ) × IsPart Fault deed c least text × FailsOnce o.faults o.faults' × Becomes o.taken o.taken' (AppendsPast least text)

-- The call has one end, by its status, and the reason for it.
pub record HasEnd (deed : Deed) (c : Call) (o : Output) (status : ℕ) : Type 0 where
  pub which : End
  pub by_status : status ≡ status_of_end c which
  pub why : IsWhy deed c o which

-- that of a snapshot which couldn't be written, or doesn't fit
abbrev pub IsOwnStatus : Deed → ℕ → Type 0
IsOwnStatus (saves most) n = n ≡ 11
IsOwnStatus continues n = n ≡ 13

-- the statuses that there are
abbrev pub IsStatus : Deed → ℕ → Type 0
IsStatus deed n =
    (n ≡ 0) ⊎ (n ≡ 3) ⊎ (n ≡ 4) ⊎ (n ≡ 5) ⊎ (n ≡ 6) ⊎ (n ≡ 7) ⊎ (n ≡ 8) ⊎ (n ≡ 9) ⊎ (n ≡ 10) ⊎ (n ≡ 12) ⊎ IsOwnStatus deed n
