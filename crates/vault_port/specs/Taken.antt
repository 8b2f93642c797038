-- The bytes that a sink has taken.
use Rattle.std.specs.Prelude.{◌≡◌, ◌<◌, ◌≤◌, ℕ, List, ◌++◌, length, take}

-- these bytes came behind the old ones
abbrev pub Appends : List ℕ → List ℕ → List ℕ → Type 0
Appends bytes old new = new ≡ old ++ bytes

-- some first bytes of these, and not all of them, came behind the old ones
abbrev pub AppendsLess : List ℕ → List ℕ → List ℕ → Type 0
AppendsLess bytes old new = (n : ℕ) × (n < length bytes) × (new ≡ old ++ take n bytes)

-- .. at least so many of them
abbrev pub AppendsPast : (least : ℕ) → List ℕ → List ℕ → List ℕ → Type 0
AppendsPast least bytes old new = (n : ℕ) × (least ≤ n) × (n < length bytes) × (new ≡ old ++ take n bytes)
