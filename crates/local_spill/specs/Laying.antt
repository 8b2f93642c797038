-- Frames laid out: each saved local directly behind the one before, and behind them the number of the call.
use Rattle.std.specs.Prelude.{◌≡◌, ◌≤◌, ℕ, ◌+◌, List, [], ◌∷◌, map, All}
use Rattle.wa_types.specs.Frames.{width, Saved, FrameSize}
use Rattle.wa_types.specs.Frames.{Place as SavedLocal}
use Rattle.wa_types.specs.Pausing.{Policy}
use Rattle.wa_types.specs.Syntax.{Func, Module}
use Rattle.local_spill.specs.declared.frames.Layout.{Layout}
use Rattle.local_spill.specs.declared.frames.Place.{Place}

-- how many bytes these locals take
abbrev pub row_size : List Place → ℕ
row_size [] = 0
row_size (p ∷ ps) = width p.ty + row_size ps

-- these locals in a row, from an offset on
abbrev pub in_a_row : (offset : ℕ) → List Place → List Place
in_a_row off [] = []
in_a_row off (p ∷ ps) = record { local = p.local; ty = p.ty; offset = off } ∷ in_a_row (off + width p.ty) ps

-- a local, wherever it stands
abbrev pub saved_local : Place → SavedLocal
saved_local p = record { local = p.local; ty = p.ty }

-- Where the locals are those that the definitions save at a call, its frame has the size that they say.
abbrev pub SizedAsSaved : List Place → (size : ℕ) → Type 0
SizedAsSaved ps size = (m : Module) (policy : Policy) (f : Func) (place : ℕ) → map saved_local ps ≡ Saved m policy f place → size ≡ FrameSize m policy f place

-- All frames have the size and the places of the first, and room for the number of a call.
abbrev pub AreAlike : List Layout → Type 0
AreAlike [] = Unit {0}
AreAlike (l ∷ ls) = (4 ≤ l.size) × All (λ (k : Layout). (k.size ≡ l.size) × (k.places.items ≡ l.places.items)) ls
