-- The frames of a function's numbered calls, and what is asked of a flat function.
use Rattle.std.specs.Prelude.{◌≡◌, ◌≤◌, ◌+◌, ℕ, suc, List, [], ◌∷◌, length, map, Some, Bool}
use Rattle.wa_types.specs.Frames.{SlotPairs, Count, Saved, FrameSize}
use Rattle.wa_types.specs.Modules.{defined_at, locals_of}
use Rattle.wa_types.specs.Pausing.{Policy, Settings, Numbered}
use Rattle.wa_types.specs.Syntax.{Func, Module}
use Rattle.run_theory.specs.FlatView.{flat_func_of}
use Rattle.flat_laws.specs.Flatten.{flattened}
use Rattle.flatten.specs.declared.whole.Flattened.{Flattened}
use Rattle.local_spill.specs.Laying.{in_a_row, saved_local}
use Rattle.local_spill.specs.declared.frames.Layout.{Layout}

-- It is the flat function of this function, which is defined, and has at most 50,000 locals as it is written.
pub record IsFlattened (m : Module) (f : Func) (v : Flattened) : Type 0 where
  pub defined : defined_at m v.func.func ≡ Some f
  pub flat : flat_func_of v.func ≡ flattened m v.func.func f
  pub few : Count m f ≤ 50000
  pub first_slot : v.first_slot ≡ length (locals_of m f)
  pub first_result : v.first_result ≡ length (locals_of m f) + length (SlotPairs m f)

-- The frame of the call of this number at this place: what the policy saves there in a row, and the size that the definitions give.
pub record IsFrameOf (m : Module) (policy : Policy) (f : Func) (number place : ℕ) (l : Layout) : Type 0 where
  pub index : l.index ≡ number
  pub locals : map saved_local l.places.items ≡ Saved m policy f place
  pub in_row : l.places.items ≡ in_a_row 0 l.places.items
  pub size : l.size ≡ FrameSize m policy f place

-- those of the calls at these places, from this number on
abbrev pub FramesAt : Module → Policy → Func → (number : ℕ) → (places : List ℕ) → List Layout → Type 0
FramesAt m policy f k [] [] = Unit {0}
FramesAt m policy f k (p ∷ ps) (l ∷ ls) = IsFrameOf m policy f k p l × FramesAt m policy f (suc k) ps ls
FramesAt m policy f k _ _ = ⊥

-- the frames of a function's numbered calls, in order
abbrev pub FramesUnder : Policy → Module → Settings → (which : List Bool) → Func → List Layout → Type 0
FramesUnder policy m s which f ls = FramesAt m policy f 0 (Numbered m s which f) ls

-- .. by the policy of the settings
abbrev pub FramesOf : Module → Settings → (which : List Bool) → Func → List Layout → Type 0
FramesOf m s which f ls = FramesUnder s.policy m s which f ls
