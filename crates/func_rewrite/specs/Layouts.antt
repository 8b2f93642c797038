-- Frames from sets of locals.
use Rattle.std.specs.Prelude.{◌≡◌, ℕ, suc, List, [], ◌∷◌, map, Bool}
use Rattle.wa_types.specs.declared.values.ValType.{ValType}
use Rattle.wa_types.specs.Frames.{FrameSize, Saved, named_places}
use Rattle.wa_types.specs.Pausing.{Policy}
use Rattle.wa_types.specs.Syntax.{Func, Module}
use Rattle.local_spill.specs.Laying.{in_a_row, saved_local}
use Rattle.local_spill.specs.declared.frames.Layout.{Layout}
use Rattle.live_locals.specs.Sets.{has}

-- The frame of the call of this number: the locals of its set in a row, and the size that the definitions give where they are what is
-- saved.
pub record IsSetFrame (types : List ValType) (set : List Bool) (number : ℕ) (l : Layout) : Type 0 where
  pub index : l.index ≡ number
  pub locals : map saved_local l.places.items ≡ named_places (has set) 0 types
  pub in_row : l.places.items ≡ in_a_row 0 l.places.items
  pub size : (m : Module) (policy : Policy) (f : Func) (place : ℕ) → named_places (has set) 0 types ≡ Saved m policy f place → l.size ≡ FrameSize m policy f place

-- those of the calls of these sets, from this number on
abbrev pub SetFrames : List ValType → (number : ℕ) → List (List Bool) → List Layout → Type 0
SetFrames types k [] [] = Unit {0}
SetFrames types k (set ∷ sets) (l ∷ ls) = IsSetFrame types set k l × SetFrames types (suc k) sets ls
SetFrames types k _ _ = ⊥
