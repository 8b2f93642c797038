-- How far the items of a file have been read, and where bytes fail.
use Rattle.std.specs.Prelude.{◌≡◌, ℕ, ◌<◌, ◌≤◌, ◌^◌, List, [], ◌∷◌, length, take, drop}
use Rattle.wa_types.specs.Begun.{Goal, IsPart, wants, Inside, Leads, start, Begun, FaultAt}
use Rattle.wa_types.specs.Binary.{Section}
use Rattle.wa_types.specs.Spells.{Spells}
use Rattle.wa_types.specs.ModuleBounds.{ModuleBounds}
use Rattle.file_laws.specs.declared.marks.Marks.{Marks}
use Rattle.file_laws.specs.Found.{MarksOf}
use Rattle.file_laws.specs.Showing.{MarksAlong}
use Rattle.wasm_grammar.specs.declared.machine.CheckFault.{CheckFault}
use Rattle.wasm_grammar.specs.declared.machine.CheckFault.TheVariants.{Memory, Malformed}

-- whole items up to this place, what comes next, and what is marked along the items
pub record Stands (bounds : ModuleBounds) (m : Marks) (bytes : List ℕ) (at : ℕ) (gs : List Goal) : Type 0 where
  pub within : at ≤ length bytes
  pub leads : Leads 0 start (take at bytes) gs
  pub inside : Inside at gs
  pub marked : MarksAlong bounds 0 start (take at bytes) gs m

-- the bytes are a part of what comes next
abbrev pub IsPartOf : List Goal → List ℕ → Type 0
IsPartOf [] bytes = bytes ≡ []
IsPartOf (g ∷ gs) bytes = IsPart (wants g) bytes

-- Whole items up to this place, and then a part of one more.
pub record Waits (bounds : ModuleBounds) (m : Marks) (bytes : List ℕ) (at : ℕ) (gs : List Goal) : Type 0 where
  pub stands : Stands bounds m bytes at gs
  pub inside : Inside (length bytes) gs
  pub left : IsPartOf gs (drop at bytes)

-- The bytes stop being begun: k is the least such that the first k aren't.
pub record StopsAt (bytes : List ℕ) (k : ℕ) : Type 0 where
  pub within : k ≤ length bytes
  pub before : (j : ℕ) → j < k → Begun (take j bytes)
  pub stops : Begun (take k bytes) → ⊥

-- nothing that more bytes could mend
abbrev pub IsFault : List ℕ → CheckFault → Type 0
IsFault bytes Memory = Unit {0}
IsFault bytes (Malformed k) = StopsAt bytes k

-- why the bytes are no file
abbrev pub IsCause : List ℕ → CheckFault → Type 0
IsCause bytes Memory = Unit {0}
IsCause bytes (Malformed k) = FaultAt bytes k

-- What is marked is what the file's sections are judged by, where the file has fewer than 2^32 bytes.
abbrev pub AreMarks : ModuleBounds → List ℕ → Marks → Type 0
AreMarks bounds bytes m = length bytes < 2 ^ 32 → (ss : List Section) → Spells bytes ss → MarksOf bounds ss m
