-- What a reduction came to, told by its flow.
use Rattle.std.specs.Prelude.{◌≡◌, ℕ, ◌-◌, ◌≤◌, ◌<◌, List, drop, reverse, take, Option}
use Rattle.wa_types.specs.declared.values.Value.{Value}
use Rattle.wa_model.specs.Store.{Store}
use Rattle.wa_model.specs.Configuration.{Configuration}
use Rattle.wa_model.specs.Step.{Next, steps, asks, returns, traps, stuck}
use Rattle.wa_model.specs.Blocking.{value_of_results}
use Rattle.interp_state.specs.declared.flow.Flow.{Flow}
use Rattle.interp_state.specs.declared.flow.Flow.TheVariants.{Moved, Asked, Returned, Trapped, Spent}
use Rattle.interp_state.specs.View.{taking}

-- what comes next costs more than is left, or nothing comes
abbrev pub IsUnpaid : Next → (left : ℕ) → Type 0
IsUnpaid (steps k d) left = left ≤ k
IsUnpaid (asks k import args d) left = left ≤ k
IsUnpaid (returns k values s) left = left ≤ k
IsUnpaid (traps k trap s) left = left ≤ k
IsUnpaid stuck left = Unit {0}

-- the arguments, below the operands that the instruction took itself
abbrev pub args_below : (own params : ℕ) → Configuration → List Value
args_below own params c = reverse (take params (drop own c.here.operands))

-- the outermost activation returned, with this value where it has a result
pub record IsReturned (next : Next) (more : ℕ) (value : Option Value) (s : Store) : Type 0 where
  pub values : List Value
  pub next_is : next ≡ returns more values s
  pub value_is : value ≡ value_of_results values

-- From a store s, with this much left to pay: what came next, and the configuration behind it. Where none was paid the
-- store is as it was.
abbrev pub Tells : Store → Next → (left : ℕ) → Flow → Configuration → Type 0
Tells s next left (Moved more) c = (next ≡ steps more c) × (more < left)
Tells s next left (Asked more import own taken) c = (next ≡ asks more import (args_below own (taken - own) c) (taking taken c)) × (more < left)
Tells s next left (Returned more value) c = IsReturned next more value c.store × (more < left)
Tells s next left (Trapped more trap) c = (next ≡ traps more trap c.store) × (more < left)
Tells s next left Spent c = IsUnpaid next left × (c.store ≡ s)
