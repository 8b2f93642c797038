-- What is passed over at once, before a stop: so many bytes lead from some goals to others, and mark nothing but levels.
use Rattle.std.specs.Prelude.{◌≡◌, ℕ, zero, suc, ◌+◌, ◌-◌, ◌*◌, ◌<◌, ◌≤◌, ◌⊎◌, List, [], ◌∷◌, take, drop, Some, Bool, true, false, nat_le}
use Rattle.wa_types.specs.Opcodes.{is_value_type, is_float_type}
use Rattle.wa_types.specs.Marks.{place_if}
use Rattle.wa_types.specs.ModuleBounds.{ModuleBounds}
use Rattle.wa_types.specs.Begun.{Goal, code, entries, EntryKind, some_runs, first_of, IsItem, Inside, entry}
use Rattle.file_laws.specs.declared.marks.Marks.{Marks}
use Rattle.file_laws.specs.Showing.{nothing_seen, opens_seen, levels, entry_shown, Noted}
use Rattle.wasm_grammar.specs.Machine.{Stands}

-- The bytes are at most so many, and the last one alone is below 128.
abbrev pub IsShort : ℕ → List ℕ → Type 0
IsShort zero bytes = ⊥
IsShort (suc k) [] = ⊥
IsShort (suc k) (b ∷ bs) = ((b < 128) × (bs ≡ [])) ⊎ ((128 ≤ b) × (b < 256) × IsShort k bs)

-- two numbers of at most four bytes, from one place to another
pub record AreShort (bytes : List ℕ) (at end : ℕ) : Type 0 where
  pub second : ℕ
  pub ahead : at < second
  pub more : second < end
  pub first_short : IsShort 4 (take (second - at) (drop at bytes))
  pub second_short : IsShort 4 (take (end - second) (drop second bytes))

-- no content ends before this place
abbrev pub Below : ℕ → List Goal → Type 0
Below stop gs = (j : ℕ) → j < stop → Inside j gs

-- what stands at one place stands at another, whatever the bounds
abbrev pub Moves : List ℕ → (m : Marks) (at : ℕ) (gs : List Goal) (n : Marks) (to : ℕ) (hs : List Goal) → Type 0
Moves bytes m at gs n to hs = (bounds : ModuleBounds) → Stands bounds m bytes at gs → Stands bounds n bytes to hs

-- instructions of one level
abbrev pub Passes : List ℕ → (at end stop : ℕ) → Type 0
Passes bytes at end stop =
    (bounds : ModuleBounds) (m : Marks) (first_arm : Bool) (gs : List Goal) → Below stop gs → Stands bounds m bytes at (code first_arm ∷ gs) → Stands bounds m bytes end (code first_arm ∷ gs)

-- the head of a construct, whose level is in a first arm or not, and is marked where it is past the bound
abbrev pub Opens : List ℕ → (at : ℕ) → (inner : Bool) → (stop : ℕ) → Type 0
Opens bytes at inner stop =
    (bounds : ModuleBounds) (m n : Marks) (first_arm : Bool) (gs : List Goal) → Below stop gs
    → Noted bounds (opens_seen (place_if (nat_le bounds.nesting (levels gs)) at)) m n
    → Stands bounds m bytes at (code first_arm ∷ gs) → Stands bounds n bytes (at + 2) (code inner ∷ code first_arm ∷ gs)

-- an end
abbrev pub Closes : List ℕ → (at stop : ℕ) → Type 0
Closes bytes at stop =
    (bounds : ModuleBounds) (m : Marks) (inner first_arm : Bool) (gs : List Goal) → Below stop gs → Stands bounds m bytes at (code inner ∷ code first_arm ∷ gs)
    → Stands bounds m bytes (at + 1) (code first_arm ∷ gs)

-- so many of n entries
abbrev pub PassesEntries : List ℕ → EntryKind → (n at passed stop : ℕ) → Type 0
PassesEntries bytes k n at passed stop =
    (bounds : ModuleBounds) (m : Marks) (gs : List Goal) → Below stop gs → Stands bounds m bytes at (entries k n ∷ gs) → Stands bounds m bytes (at + passed) (entries k (n - passed) ∷ gs)

-- an entry of this kind is this byte alone, and shows nothing
pub record IsEntryByte (k : EntryKind) (byte : ℕ) : Type 0 where
  pub is_item : IsItem (first_of k) (byte ∷ []) byte
  pub leaves_none : (at : ℕ) → entry k byte at ≡ Some []
  pub shows_none : (at : ℕ) → entry_shown k byte at ≡ nothing_seen

-- so many of n runs, of two bytes each
abbrev pub PassesRuns : List ℕ → (n at passed stop : ℕ) → Type 0
PassesRuns bytes n at passed stop =
    (bounds : ModuleBounds) (m : Marks) (gs : List Goal) → Below stop gs → Stands bounds m bytes at (entries some_runs n ∷ gs)
    → Stands bounds m bytes (at + 2 * passed) (entries some_runs (n - passed) ∷ gs)

-- a run is these two bytes, of no float
pub record IsShortRun (count ty : ℕ) : Type 0 where
  pub small : count < 128
  pub typed : is_value_type ty ≡ true
  pub whole_number : is_float_type ty ≡ false
