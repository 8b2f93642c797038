-- The commands that take a script.
use Rattle.std.specs.Prelude.{List, [], ◌∷◌, ℕ, codes}
use Rattle.clap.specs.Simple.{Shape, new_shape}
use Rattle.command_words.specs.Grammar.{placed_rule}

-- the command of this name with a script
abbrev pub script_shape : List ℕ → Shape
script_shape name = record (new_shape name) { rules = placed_rule (codes "script") ∷ [] }
