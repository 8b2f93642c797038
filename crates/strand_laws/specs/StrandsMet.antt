-- The outcomes that the calls of strands meet.
use Rattle.std.specs.Prelude.{◌≡◌, ◌≤◌, ℕ, suc, List, [], ◌∷◌, length, map, take}
use Rattle.wa_model.specs.Plan.{Outcome}
use Rattle.world_laws.specs.Originals.{met, new_calls}
use Rattle.strand_laws.specs.StrandWorld.{HeldStrands, Staged, StrandsInWorld, notes_of}
use Rattle.strand_laws.specs.Woven.{Told}

-- for each strand of a program in a world the outcomes that its calls meet; what its list has behind them no call meets
abbrev pub met_in : Staged → List (List Outcome)
met_in x = map met x.actors

-- for each strand, from this number on, the outcomes that its calls take where all tell these notes
abbrev pub met_of : List Told → (strand : ℕ) → List (List Outcome) → List (List Outcome)
met_of ts i [] = []
met_of ts i (os ∷ oss) = take (new_calls (notes_of i ts)) os ∷ met_of ts (suc i) oss

-- each strand, from this number on, has an outcome for each call that it tells
abbrev pub HaveOutcomes : List Told → (strand : ℕ) → List (List Outcome) → Type 0
HaveOutcomes ts i [] = Unit {0}
HaveOutcomes ts i (os ∷ oss) = (new_calls (notes_of i ts) ≤ length os) × HaveOutcomes ts (suc i) oss

-- What a program's strands tell under the protocol they tell with the outcomes that their calls meet, whatever stands behind these.
abbrev pub StrandStoriesOfMet : Type 0
StrandStoriesOfMet =
    (g : StrandsInWorld) (oss : List (List Outcome)) (ts : List Told) → length oss ≡ length g.program.strands → HeldStrands g oss ts → HaveOutcomes ts 0 oss → HeldStrands g (met_of ts 0 oss) ts
