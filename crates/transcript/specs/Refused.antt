-- What is printed of a refusal, and its status.
use Rattle.std.specs.Prelude.{◌≡◌, ◌⊎◌, ◌≤◌, ◌<◌, ℕ, List, ◌++◌, length, take, None}
use Rattle.vault_port.specs.Counts.{FailsOnce, FailsAtMostOnce}
use Rattle.vault_port.specs.Taken.{Appends, AppendsLess}
use Rattle.script_model.specs.Transcript.{Refusal, usage, out_of_memory, malformed, float, nesting, invalid, limit, reserved, script, read_fault, write_fault, snapshot_limit, snapshot_refused, refusal_line}

-- the status of each refusal
abbrev pub status_of : Refusal → ℕ
status_of usage = 2
status_of (malformed at) = 3
status_of (float at) = 4
status_of (invalid func rule at) = 5
status_of (limit what found) = 6
status_of (nesting at) = 6
status_of (reserved name) = 7
status_of (script line rule) = 8
status_of out_of_memory = 9
status_of (read_fault name) = 10
status_of (write_fault name) = 11
status_of (snapshot_limit found) = 6
status_of snapshot_refused = 13

-- the line was printed, and no put has failed; or less of it, where one has
abbrev pub Prints : List ℕ → ℕ → ℕ → List ℕ → List ℕ → Type 0
Prints line faults faults' old new = (Appends line old new × (faults' ≡ faults)) ⊎ (AppendsLess line old new × FailsOnce faults faults')

-- What has failed in a call of this status, by the counts of fetches, saves and puts before and after it: each at most once, so that
-- nothing is tried again behind a failure; a fetch only with 10, a save only with 11, and no put with 0. Where memory was wanting
-- behind a failure the status is 9.
pub record CountsBy (status fetched fetched' saved saved' put put' : ℕ) : Type 0 where
  pub fetch_once : FailsAtMostOnce fetched fetched'
  pub save_once : FailsAtMostOnce saved saved'
  pub put_once : FailsAtMostOnce put put'
  pub fetches : (status ≡ 9) ⊎ (status ≡ 10) ⊎ (fetched' ≡ fetched)
  pub saves : (status ≡ 9) ⊎ (status ≡ 11) ⊎ (saved' ≡ saved)
  pub puts : status ≡ 0 → put' ≡ put

-- the line of want of memory
abbrev pub memory_line : List ℕ
memory_line = refusal_line None out_of_memory

-- no put has failed, or that of the line on memory has, of which so many bytes were printed
abbrev pub FailsLast : (k faults faults' : ℕ) → Type 0
FailsLast k faults faults' = (faults' ≡ faults) ⊎ ((k < length memory_line) × FailsOnce faults faults')

-- some first bytes of the line on memory were printed, the last put of all
abbrev pub EndsInMemory : (faults faults' : ℕ) → List ℕ → List ℕ → Type 0
EndsInMemory faults faults' old new = (k : ℕ) × FailsLast k faults faults' × (new ≡ old ++ take k memory_line)

-- some first bytes of this line, and then some of the line on memory, were printed
abbrev pub PrintsMemory : List ℕ → (faults faults' : ℕ) → List ℕ → List ℕ → Type 0
PrintsMemory line faults faults' old new = (n : ℕ) × (k : ℕ) × FailsLast k faults faults' × (new ≡ old ++ take n line ++ take k memory_line)

-- .. at least so many of this line
abbrev pub PrintsMemoryPast : (least : ℕ) → List ℕ → (faults faults' : ℕ) → List ℕ → List ℕ → Type 0
PrintsMemoryPast least line faults faults' old new = (n : ℕ) × (k : ℕ) × FailsLast k faults faults' × (least ≤ n) × (new ≡ old ++ take n line ++ take k memory_line)
