-- Saved locals, and the frames of numbered calls.
use Rattle.std.specs.Prelude.{◌≡◌, ◌+◌, ℕ, suc, List, [], ◌∷◌, length}
use Rattle.wa_types.specs.declared.values.ValType.{ValType}
use Rattle.wa_types.specs.Frames.{Place as SavedLocal}
use Rattle.local_spill.specs.Laying.{in_a_row, row_size, SizedAsSaved}
use Rattle.local_spill.specs.declared.frames.Layout.{Layout}
use Rattle.local_spill.specs.declared.frames.Place.{Place}

-- all locals of these types, from this one on
abbrev pub numbered_places : ℕ → List ValType → List SavedLocal
numbered_places x [] = []
numbered_places x (t ∷ ts) = record { local = x; ty = t } ∷ numbered_places (suc x) ts

-- the frame of the call with this number, where these locals are saved
pub record IsFrame (saved : List Place) (number : ℕ) (l : Layout) : Type 0 where
  pub index : l.index ≡ number
  pub places : l.places.items ≡ in_a_row 0 saved
  pub size : l.size ≡ row_size saved + 4
  pub sized : SizedAsSaved saved l.size

-- the frames of calls, from this number on
abbrev pub FramesFrom : List Place → (number : ℕ) → List Layout → Type 0
FramesFrom saved k [] = Unit {0}
FramesFrom saved k (l ∷ ls) = IsFrame saved k l × FramesFrom saved (suc k) ls

-- the frames of so many calls
pub record AllFrames (saved : List Place) (count : ℕ) (ls : List Layout) : Type 0 where
  pub many : length ls ≡ count
  pub each : FramesFrom saved 0 ls
