-- Runs with blocking imports of a module in which some functions are flat, beside those of the original.
use Rattle.std.specs.Prelude.{◌≡◌, ◌≤◌, ℕ, suc, ◌+◌, ◌*◌, nat_lt, List, [], ◌∷◌, Bool, true, false}
use Rattle.std.specs.List.{sum}
use Rattle.wa_types.specs.Syntax.{local_get, local_set, Code, plain, Func, Module}
use Rattle.wa_types.specs.Bounds.{code_weight, Weight}
use Rattle.wa_types.specs.Base.{Base}
use Rattle.wa_types.specs.Validity.{Valid}
use Rattle.wa_model.specs.Machine.{Turn, stops, goes}
use Rattle.wa_model.specs.Plan.{Plan, Outcome, Fits}
use Rattle.wa_model.specs.Blocking.{Note, State, runs, events_of, blocking, Blocking, store_of}
use Rattle.run_theory.specs.DeterminedRuns.{start_of}
use Rattle.run_theory.specs.Touches.{trace, Touches}
use Rattle.run_theory.specs.Flat.{body_of}
use Rattle.flat_laws.specs.Flatten.{flattened}
use Rattle.flat_laws.specs.FlatModule.{flat_module}
use Rattle.flat_runs.specs.Beside.{first_of}

-- ---- the lean cost

-- The next instruction accesses no local behind so many: no slot and no result local.
abbrev pub is_loud : (first : ℕ) → Code → Bool
is_loud first (plain (local_get x) rest) = nat_lt x first
is_loud first (plain (local_set x) rest) = nat_lt x first
is_loud first _ = true

-- the next move counts in the lean cost
abbrev pub counts : (first : ℕ → ℕ) → State → Bool
counts first (runs task c l) = is_loud (first c.here.func) c.here.code
counts first _ = true

-- the cost of a move
abbrev pub turn_cost : Turn State Note → ℕ
turn_cost stops = 0
turn_cost (goes k es t) = suc k

-- a cost, where told
abbrev pub cost_if : Bool → ℕ → List ℕ
cost_if true k = k ∷ []
cost_if false k = []

-- the cost of the next move, where it counts
abbrev pub lean_next : (first : ℕ → ℕ) → Module → Plan → State → List ℕ
lean_next first p plan s = cost_if (counts first s) (turn_cost (blocking p plan s))

-- The lean cost of a flat module's run up to a cost of n: accesses of slots and of result locals count 0.
abbrev pub LeanCost : (m p : Module) → Plan → List Outcome → ℕ → ℕ
LeanCost m p plan os n = sum (trace (blocking (Base p) plan) (lean_next (first_of m) (Base p) plan) (λ (x : Note). 0) n (start_of p plan os).last)

-- ---- both runs

-- Where the one run is at a cost of i, and the other at a cost of n, both have made the same events and the same loads, stores,
-- copies, fills and growths, in order, and their stores are the same.
pub record StandAlike (m p : Module) (plan : Plan) (os : List Outcome) (i n : ℕ) : Type 0 where
  pub events : events_of (Blocking p plan os n).events ≡ events_of (Blocking m plan os i).events
  pub touches : Touches p plan os n ≡ Touches m plan os i
  pub store : store_of (Blocking p plan os n).last ≡ store_of (Blocking m plan os i).last

-- At each cost of the flat run the original's stands alike at some cost, at most the lean cost.
abbrev pub FlatFollows : Type 0
FlatFollows =
    (m : Module) (which : List Bool) (plan : Plan) (os : List Outcome) (n : ℕ) → Valid m → Fits m plan
    → (i : ℕ) × (i ≤ LeanCost m (flat_module m which) plan os n) × StandAlike m (flat_module m which) plan os i n

-- At each cost of the original's run the flat one stands alike at some cost, at most 16 times that.
abbrev pub FlatReaches : Type 0
FlatReaches =
    (m : Module) (which : List Bool) (plan : Plan) (os : List Outcome) (i : ℕ) → Valid m → Fits m plan
    → (n : ℕ) × (n ≤ 16 * i) × StandAlike m (flat_module m which) plan os i n

-- The lean cost is at most the cost.
abbrev pub LeanIsLess : Type 0
LeanIsLess = (m p : Module) (plan : Plan) (os : List Outcome) (n : ℕ) → LeanCost m p plan os n ≤ n

-- A flat body has at most 16 times as many instructions, labels of `br_table` and call parameters as its function weighs, and 64.
abbrev pub FlatWeighs : Type 0
FlatWeighs = (m : Module) (x : ℕ) (f : Func) → code_weight m (body_of (flattened m x f)) ≤ 16 * (Weight m f + 4)
