-- Counts of faults.
use Rattle.std.specs.Prelude.{◌≡◌, ◌⊎◌, ◌<◌, ◌+◌, ◌-◌, ◌^◌, ℕ, min}

-- a count rose; one that stands at the greatest u64 counts as risen
abbrev pub HasRisen : ℕ → ℕ → Type 0
HasRisen old new = (old < new) ⊎ (new ≡ 2 ^ 64 - 1)

-- one more; a u64 stands still at its greatest
abbrev pub one_more : ℕ → ℕ
one_more count = min (count + 1) (2 ^ 64 - 1)

-- one call more has failed
abbrev pub FailsOnce : ℕ → ℕ → Type 0
FailsOnce old new = new ≡ one_more old

-- at most one call more has failed
abbrev pub FailsAtMostOnce : ℕ → ℕ → Type 0
FailsAtMostOnce old new = (new ≡ old) ⊎ FailsOnce old new
