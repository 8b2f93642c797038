-- What words ask for.
use Rattle.std.specs.Prelude.{◌≡◌, ℕ, List}
use Rattle.script_model.specs.Command.{command}
use Rattle.script_model.specs.Spelled.{rewriting, spelled}

-- The `transform` that words ask for, among all commands, is the one that they spell by themselves.
abbrev pub TransformsAreSpelled : Type 0
TransformsAreSpelled = (words : List (List ℕ)) → rewriting (spelled words) ≡ command words
