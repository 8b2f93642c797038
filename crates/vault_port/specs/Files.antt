-- The files of a vault, and what the calls do to them.
use Rattle.std.specs.Prelude.{◌≡◌, ◌≢◌, ◌⊎◌, ◌+◌, ◌-◌, ◌≤◌, ℕ, List, [], ◌++◌, length, take, drop, Option, Some, None, unwrap_or}
use Rattle.vault_port.specs.Counts.{FailsOnce}

-- what each name holds; None where there is no file of that name
abbrev pub Files : Type 0
Files = List ℕ → Option (List ℕ)

-- the bytes of a file; an absent file counts as empty
abbrev pub bytes_of : Files → List ℕ → List ℕ
bytes_of files name = unwrap_or (files name) []

-- A fetch of n bytes from a place: they stand at the front of the buffer, whose rest is as before. None come only
-- where the buffer is empty or no byte stands at that place.
pub record IsFetched (bytes : List ℕ) (from n : ℕ) (old new : List ℕ) : Type 0 where
  pub there : n ≤ length bytes - from
  pub buffer : new ≡ take n (drop from bytes) ++ drop n old
  pub none : n ≡ 0 → (length old ≡ 0) ⊎ (length bytes ≤ from)

-- a buffer begins with the first n bytes of a file
pub record HoldsFront (bytes : List ℕ) (n : ℕ) (buffer : List ℕ) : Type 0 where
  pub there : n ≤ length bytes
  pub same : take n buffer ≡ take n bytes

-- A buffer that began with the first bytes of a file begins with n more. None come only where no room was left or
-- the file is at its end.
pub record FetchesMore (bytes : List ℕ) (done n : ℕ) (old new : List ℕ) : Type 0 where
  pub more : HoldsFront bytes done old → HoldsFront bytes (done + n) new
  pub none : n ≡ 0 → (length old ≡ done) ⊎ (length bytes ≤ done)

-- the other files are as before
abbrev pub KeepsOthers : List ℕ → Files → Files → Type 0
KeepsOthers name old new = (other : List ℕ) → other ≢ name → new other ≡ old other

-- one file holds these bytes now, and the others are as before
pub record ChangesOnly (name bytes : List ℕ) (old new : Files) : Type 0 where
  pub changed : new name ≡ Some bytes
  pub others : KeepsOthers name old new

-- one file holds these bytes now or is as before, and the others are as before
pub record ChangesAtMost (name bytes : List ℕ) (old new : Files) : Type 0 where
  pub changed : (new name ≡ Some bytes) ⊎ (new name ≡ old name)
  pub others : KeepsOthers name old new

-- one file holds some first bytes of these or is as before, and the others are as before
pub record HoldsFrontAtMost (name bytes : List ℕ) (old new : Files) : Type 0 where
  pub changed : ((n : ℕ) × (new name ≡ Some (take n bytes))) ⊎ (new name ≡ old name)
  pub others : KeepsOthers name old new

-- the files are told, and there is none of this name
abbrev pub IsMissing : Option Files → List ℕ → Type 0
IsMissing None name = ⊥
IsMissing (Some files) name = files name ≡ None

-- A file couldn't be read: one fetch more has failed, or the files are told, there is none of this name, and no fetch has failed.
abbrev pub CannotRead : Option Files → List ℕ → (faults faults' : ℕ) → Type 0
CannotRead files name faults faults' = FailsOnce faults faults' ⊎ (IsMissing files name × (faults' ≡ faults))
