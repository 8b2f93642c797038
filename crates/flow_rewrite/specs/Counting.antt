-- What is told of units while they are counted.
use Rattle.std.specs.Prelude.{◌≡◌, ℕ, zero, suc, min, Bool, true, ◌&&◌, nat_lt}
use Rattle.guard_form.specs.Guarded.{first_alone}
use Rattle.guard_form.specs.Pieces.{Units, numbers_in}
use Rattle.flow_rewrite.specs.declared.counts.Counted.{Counted}

-- behind so many numbered calls the units that come hold the first of all, or don't
abbrev pub row_alone : (calls : ℕ) → (front behind : Bool) → Bool
row_alone zero front behind = front && behind
row_alone (suc n) front behind = front

-- a loop whose body holds so many holds the first of all alone
abbrev pub loop_alone : (calls : ℕ) → (body : Bool) → Bool
loop_alone calls body = nat_lt calls 2 && body

-- Up to two numbered calls are counted, and the first is told to stand in no loop with another.
pub record IsCounted (us : Units) (c : Counted) : Type 0 where
  pub calls : c.calls ≡ min (numbers_in us) 2
  pub alone : c.first_alone ≡ first_alone 0 us
