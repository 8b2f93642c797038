-- What an object of the outside tells of its content: `Some` of it, or `None`, which claims nothing.
use Rattle.std.specs.Prelude.{Option, Some, None}

-- P of what is told, where it is told
abbrev pub WhereTold : {A : Type 0} → Option A → (A → Type 0) → Type 0
WhereTold None P = Unit {0}
WhereTold (Some told) P = P told

-- what was told before and what is told now are related so; what was not told still is not
abbrev pub Becomes : {A : Type 0} → Option A → Option A → (A → A → Type 0) → Type 0
Becomes None None R = Unit {0}
Becomes (Some old) (Some new) R = R old new
Becomes _ _ R = ⊥
