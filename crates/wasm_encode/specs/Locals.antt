-- Runs of locals, as they are merged.
use Rattle.std.specs.Prelude.{◌≡◌, ◌≢◌, ℕ, ◌+◌, List, ◌==◌, if◌then◌else◌}
use Rattle.std.specs.List.{sum_by}
use Rattle.wa_types.specs.declared.syntax.Run.{Run}
use Rattle.wa_types.specs.Encoding.{run_onto}

-- how many locals the runs declare
abbrev pub local_count : List Run → ℕ
local_count runs = sum_by (λ r. r.count) runs

-- a run in front of merged runs, left out where it is empty
abbrev pub in_front_of : Run → List Run → List Run
in_front_of r rest = if r.count == 0 then rest else run_onto r rest

-- neither run is empty, and they are of two types
pub record StandApart (run next : Run) : Type 0 where
  pub first_some : run.count ≢ 0
  pub next_some : next.count ≢ 0
  pub types : run.ty ≢ next.ty

-- the two runs are merged as this one
pub record Joins (run next both : Run) : Type 0 where
  pub count : both.count ≡ run.count + next.count
  pub merged : (rest : List Run) → in_front_of both rest ≡ in_front_of run (in_front_of next rest)
