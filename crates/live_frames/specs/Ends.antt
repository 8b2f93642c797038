-- What rows of calls add, told at their ends.
use Rattle.std.specs.Prelude.{◌≡◌, ◌≤◌, ◌^◌, ℕ, zero, suc, ◌+◌, ◌%◌, List, [], ◌∷◌}
use Rattle.call_frames.specs.CallTests.{CallRow}
use Rattle.live_frames.specs.declared.digits.OwnSize.{OwnSize}
use Rattle.live_frames.specs.Digits.{Sums}

-- each row stands behind the one before, and the first is not below this number
abbrev pub Rising : ℕ → List CallRow → Type 0
Rising n [] = Unit {0}
Rising n (r ∷ rs) = (n ≤ r.first) × Rising (suc (r.first + r.more)) rs

-- the sum of so many first numbers
abbrev pub first_sum : ℕ → List ℕ → ℕ
first_sum n [] = 0
first_sum zero (e ∷ es) = 0
first_sum (suc n) (e ∷ es) = e + first_sum n es

-- what is added to this call: the numbers up to its place
abbrev pub up_to : ℕ → List ℕ → ℕ
up_to k ends = first_sum (suc k) ends

-- each call has this sum
abbrev pub EndSums : (sums : ℕ → ℕ) → (ends : List ℕ) → Type 0
EndSums sums ends = (k : ℕ) → up_to k ends % 2 ^ 32 ≡ sums k % 2 ^ 32

-- Sizes, of parts up to this number, and what is told at ends are together these sums.
pub record Added (sums : ℕ → ℕ) (last : ℕ) (sizes : List OwnSize) (ends : List ℕ) : Type 0 where
  pub own : ℕ → ℕ
  pub more : ℕ → ℕ
  pub slow : Sums own last sizes
  pub fast : EndSums more ends
  pub are : (k : ℕ) → own k + more k ≡ sums k
