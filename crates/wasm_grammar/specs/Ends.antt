-- Where contents end, with the goals of a place.
use Rattle.std.specs.Prelude.{ℕ, ◌<◌, ◌≤◌, min, List, [], ◌∷◌, Option, Some, None, ◌==◌, Bool, false}
use Rattle.wa_types.specs.Begun.{Goal, sections, end_of, Inside, Steps}
use Rattle.wasm_grammar.specs.declared.ends.Closing.{Closing}
use Rattle.wasm_grammar.specs.declared.ends.Closing.TheVariants.{Wanted, Ended, Early}

-- what is wanted, by how the first goal stands to the place
abbrev pub by_closing : Closing → (later here : Option (List Goal)) → Option (List Goal)
by_closing Wanted later here = here
by_closing Ended later here = later
by_closing Early later here = None

-- the least ends with one more, which stands before them
abbrev pub lowered : Option ℕ → List ℕ → List ℕ
lowered None ends = ends
lowered (Some e) [] = e ∷ []
lowered (Some e) (m ∷ ends) = min e m ∷ m ∷ ends

-- for each goal that has an end, the least of its own and of those behind it
unfoldable pub least_ends : List Goal → List ℕ
least_ends [] = []
least_ends (g ∷ gs) = lowered (end_of g) (least_ends gs)

-- No content ends before this place, and one ends there; or none ever ends.
abbrev pub IsLeastEnd : List Goal → Option ℕ → Type 0
IsLeastEnd gs None = (j : ℕ) → Inside j gs
IsLeastEnd gs (Some e) = (j : ℕ) → (j < e → Inside j gs) × (e ≤ j → Inside j gs → ⊥)

-- An item of this value that ends at this place leads nowhere.
abbrev pub NoStep : Goal → List Goal → (v at : ℕ) → Type 0
NoStep g gs v at = (hs : List Goal) → Steps g gs v at hs → ⊥

-- the least end of a content among these places, up to a last one
abbrev pub IsReached : List Goal → ℕ → Option ℕ → Type 0
IsReached gs last None = (j : ℕ) → j ≤ last → Inside j gs
IsReached gs last (Some end) = (end ≤ last) × ((j : ℕ) → j < end → Inside j gs) × (Inside end gs → ⊥)

-- sections may follow, and no function is without a body
abbrev pub owes_none : Goal → Bool
owes_none (sections last owed) = owed == 0
owes_none _ = false

-- such a goal alone is wanted
abbrev pub is_end : List Goal → Bool
is_end [] = false
is_end (g ∷ []) = owes_none g
is_end (g ∷ h ∷ gs) = false
