-- Places in bytes.
use Rattle.std.specs.Prelude.{◌≡◌, ℕ, ◌+◌, ◌≤◌, List, [], ◌++◌, length, drop, Result, Ok, Err}
use Rattle.wasm_grammar.specs.declared.front.NotSpelled.{NotSpelled}

-- A place in bytes: its offset, and the bytes from there on.
pub record Place : Type 0 where
  pub at : ℕ
  pub left : List ℕ

-- the place at this offset of these bytes
abbrev pub place_in : (bytes : List ℕ) (at : ℕ) → Place
place_in bytes at = record { at = at; left = drop at bytes }

-- the same where the first of these bytes has an offset of its own
abbrev pub place_from : (first : ℕ) (bytes : List ℕ) (at : ℕ) → Place
place_from first bytes at = record { at = first + at; left = drop at bytes }

-- the place at the first of these bytes, which has this offset
abbrev pub place_at : (first : ℕ) (bytes : List ℕ) → Place
place_at first bytes = record { at = first; left = bytes }

-- the place behind these bytes, where those are left
abbrev pub behind : Place → (passed left : List ℕ) → Place
behind p passed left = record { at = p.at + length passed; left = left }

-- a place in the same bytes, not before this one
pub record Onward (from to : Place) : Type 0 where
  pub whole : to.at + length to.left ≡ from.at + length from.left
  pub left : length to.left ≤ length from.left

-- a place with these bytes behind those that are left
abbrev pub with_more : Place → (more : List ℕ) → Place
with_more p more = record { at = p.at; left = p.left ++ more }

-- that number, and the place that is reached with those bytes behind; where none is read, there are some
abbrev pub GivesNumber : Result ℕ NotSpelled → ℕ → (new : Place) → (more : List ℕ) → (end : Place) → Type 0
GivesNumber (Ok v) n new more end = (v ≡ n) × (with_more new more ≡ end)
GivesNumber (Err e) n new more end = more ≡ [] → ⊥

-- For whatever number the front spells, whatever follows the bytes, the answer is that, and the place is behind it; or it isn't whole yet.
abbrev pub ReadsNumber : (List ℕ → ℕ → Type 0) → Result ℕ NotSpelled → (old new : Place) → Type 0
ReadsNumber Spells result old new =
    (n : ℕ) (front rest more : List ℕ) → old.left ++ more ≡ front ++ rest → Spells front n → GivesNumber result n new more (behind old front rest)
