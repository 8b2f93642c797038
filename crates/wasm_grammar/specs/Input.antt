-- What is known of a file of which a stretch is held.
use Rattle.std.specs.Prelude.{ℕ, List, ◌++◌}

-- All bytes that have come, from the first one on, and the place from which on they are held.
pub record Input : Type 0 where
  pub all : List ℕ
  pub base : ℕ

abbrev pub input_of : (before bytes : List ℕ) (base : ℕ) → Input
input_of before bytes base = record { all = before ++ bytes; base = base }
