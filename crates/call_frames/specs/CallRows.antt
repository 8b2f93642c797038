-- Calls as rows: each stands for numbers that follow one another.
use Rattle.std.specs.Prelude.{◌≡◌, ◌<◌, ◌+◌, ◌^◌, ℕ, zero, suc, List, [], ◌∷◌, ◌++◌, map}
use Rattle.call_frames.specs.CallTests.{CallRow}
use Rattle.call_frames.specs.PlainFrames.{rows_of}
use Rattle.call_frames.specs.declared.rows.Row.{Row}

-- calls in a row
abbrev pub row_view : Row → CallRow
row_view r = record { first = r.first; more = r.more }

-- rows, one behind another
abbrev pub row_views : List Row → List CallRow
row_views rs = map row_view rs

-- a number, and so many that follow it
abbrev pub upto : (first more : ℕ) → List ℕ
upto k zero = k ∷ []
upto k (suc n) = k ∷ upto (suc k) n

-- so many numbers, from this one on
abbrev pub counted : (first count : ℕ) → List ℕ
counted k zero = []
counted k (suc n) = k ∷ counted (suc k) n

-- the numbers that rows stand for
abbrev pub numbers_in : List CallRow → List ℕ
numbers_in [] = []
numbers_in (r ∷ rs) = upto r.first r.more ++ numbers_in rs

-- no number is above 32 bits
abbrev pub RowsFit : List Row → Type 0
RowsFit [] = Unit {0}
RowsFit (r ∷ rs) = (r.first + r.more < 2 ^ 32) × RowsFit rs

-- Each row is as long as it can be, and all numbers are of 32 bits.
pub record AreRows (rs : List Row) : Type 0 where
  pub long : rows_of (numbers_in (row_views rs)) ≡ row_views rs
  pub fit : RowsFit rs
