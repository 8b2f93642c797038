-- What reading a part of a line answers, and the words of pokes.
use Rattle.std.specs.Prelude.{List, ℕ, [], ◌∷◌}
use Rattle.script_model.specs.ScriptLines.{PokeWords}
pub use Rattle.script_reader.specs.Reading.{Blames, Reads, begins_plainly, behind_words, or_breaks, told_words}

-- words by threes, the first of each aside: the places and bytes of pokes
abbrev pub triples : List (List ℕ) → List PokeWords
triples (word ∷ at ∷ bytes ∷ rest) = record { at = at; bytes = bytes } ∷ triples rest
triples _ = []
