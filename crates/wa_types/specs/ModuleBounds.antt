-- What a module may hold: the bounds of a source module, and the wider ones of a prepared module, which has the
-- runtime's parts.
use Rattle.std.specs.Prelude.{ℕ}

-- The most bytes of a file, functions with imported ones, parameters, bytes of a body, nested constructs, and parameters and locals of a function.
pub record ModuleBounds : Type 0 where
  pub file : ℕ
  pub functions : ℕ
  pub parameters : ℕ
  pub body : ℕ
  pub nesting : ℕ
  pub locals : ℕ

-- the bounds of a source module
abbrev pub source_bounds : ModuleBounds
source_bounds = record { file = 8388608; functions = 100000; parameters = 1000; body = 1048576; nesting = 1000; locals = 50000 }

-- the bounds of a prepared module
abbrev pub prepared_bounds : ModuleBounds
prepared_bounds = record { file = 67108864; functions = 100005; parameters = 1000; body = 67108864; nesting = 3008; locals = 50000 }
