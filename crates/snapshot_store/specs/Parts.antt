-- What reading a part of a snapshot answers: what stands at the front, and what behind it.
use Rattle.std.specs.Prelude.{◌≡◌, ℕ, ◌*◌, ◌<◌, ◌^◌, List, ◌++◌, length, All}
use Rattle.wa_types.specs.declared.values.Value.{Value}
use Rattle.wa_types.specs.Memory.{bytes_of, page_size}
use Rattle.wa_types.specs.Sizes.{value_fits}
use Rattle.snapshot_store.specs.Snapshots.{ProgramRecord, fresh, paused, over, RecordFits}

-- a part of this kind stands at the front of the bytes, and these behind it
abbrev pub Fronts : {X : Type 0} → (X → Type 0) → (X → List ℕ) → List ℕ → X → List ℕ → Type 0
Fronts Fits spell bytes x rest = Fits x × (bytes ≡ spell x ++ rest)

-- none does
abbrev pub HasNone : {X : Type 0} → (X → Type 0) → (X → List ℕ) → List ℕ → Type 0
HasNone {X} Fits spell bytes = (x : X) (rest : List ℕ) → Fits x → bytes ≡ spell x ++ rest → ⊥

-- so many globals
abbrev pub AreGlobals : ℕ → List Value → Type 0
AreGlobals count gs = All value_fits gs × (length gs ≡ count)

-- so many records
abbrev pub AreRecords : ℕ → List ProgramRecord → Type 0
AreRecords count rs = All RecordFits rs × (length rs ≡ count)

-- the numbers of a paused program, up to how many globals it has
pub record Head : Type 0 where
  pub due : ℕ
  pub steps_used : ℕ
  pub entry : ℕ
  pub answers : ℕ
  pub import : ℕ
  pub globals : ℕ

abbrev pub head_bytes : Head → List ℕ
head_bytes h = bytes_of 8 h.due ++ (bytes_of 8 h.steps_used ++ (bytes_of 4 h.entry ++ (bytes_of 4 h.answers ++ (bytes_of 4 h.import ++ bytes_of 4 h.globals))))

-- they are in their ranges
pub record HeadFits (h : Head) : Type 0 where
  pub due : h.due < 2 ^ 64
  pub steps_used : h.steps_used < 2 ^ 64
  pub entry : h.entry < 2 ^ 32
  pub answers : h.answers < 2 ^ 32
  pub import : h.import < 2 ^ 32
  pub globals : h.globals < 2 ^ 32

-- what is asked of a record that is written
abbrev pub CountsFit : ProgramRecord → Type 0
CountsFit fresh = Unit {0}
CountsFit (paused due x memory) = (length x.globals < 2 ^ 32) × (length memory ≡ x.pages * page_size)
CountsFit over = Unit {0}
