-- Runs that touch no byte of the area.
use Rattle.std.specs.Prelude.{◌≡◌, ℕ, ◌+◌, ◌≤◌, ◌<◌, List, [], All, false, length, take}
use Rattle.wa_types.specs.declared.values.Value.{Value}
use Rattle.wa_types.specs.Syntax.{basic, Code, plain, Module}
use Rattle.wa_model.specs.declared.answers.Area.{Area}
use Rattle.wa_model.specs.Store.{Range, reached, takes}
use Rattle.wa_model.specs.Configuration.{Configuration}
use Rattle.wa_model.specs.Plan.{Plan, Outcome}
use Rattle.wa_model.specs.Blocking.{overlap, State, between, begins, runs, halts, Blocking}

-- what the instruction that stands next reaches with its own operands
abbrev pub ranges_in : List Value → Code → List Range
ranges_in ops (plain (basic b) rest) = reached b (take (takes b) ops)
ranges_in ops _ = []

-- what a configuration's next reduction reaches
abbrev pub next_ranges : Configuration → List Range
next_ranges c = ranges_in c.here.operands c.here.code

-- Ranges stay off the area where all of them lie inside a memory of this size: else the instruction traps.
abbrev pub StaysOff : Area → (size : ℕ) → List Range → Type 0
StaysOff area size xs = All (λ (x : Range). x.at + x.len ≤ size) xs → All (λ (x : Range). overlap x.at x.len area.at area.len ≡ false) xs

-- the next move of a run stays off the area
abbrev pub IsCalm : Area → State → Type 0
IsCalm area (between s l) = Unit {0}
IsCalm area (begins x s l) = Unit {0}
IsCalm area (runs task c l) = StaysOff area (length c.store.memory) (next_ranges c)
IsCalm area (halts s) = Unit {0}

-- No load, store, copy or fill that the run begins below a cost of n, and that doesn't trap, overlaps the area; a copy also not by its source.
abbrev pub Untouched : Module → Plan → List Outcome → ℕ → Type 0
Untouched m plan os n = (j : ℕ) → j < n → IsCalm plan.area (Blocking m plan os j).last
