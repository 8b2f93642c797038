-- How the stack at each call of a run leads from what the host called to the import, and where its activations stand.
use Rattle.std.specs.Prelude.{◌≡◌, ◌<◌, ◌≤◌, ◌⊎◌, ℕ, suc, List, [], ◌∷◌, length, take, Option, Some, None, Bool, true, false, All, Contains, slice_get}
use Rattle.wa_types.specs.Frames.{Suspended}
use Rattle.wa_types.specs.Pausing.{Settings, Listed, TellsMayPause, calls_in, indirect}
use Rattle.wa_types.specs.Syntax.{Func, Module}
use Rattle.wa_types.specs.Modules.{func_imports, defined_at}
use Rattle.wa_model.specs.Outside.{Call, Event, called, returned}
use Rattle.wa_model.specs.Store.{Store}
use Rattle.wa_model.specs.Plan.{Entry, Plan, Outcome}
use Rattle.wa_model.specs.Blocking.{Note, Blocking}
use Rattle.wa_model.specs.Behaves.{StandsNumbered, PausesNumbered}
use Rattle.run_theory.specs.LawfulStacks.{Chained}

-- ---- suspended stacks

-- what the host calls: the start function, or that of an entry
abbrev pub IsRoot : Module → Plan → ℕ → Type 0
IsRoot m plan x = (m.start ≡ Some x) ⊎ ((e : Entry) × Contains plan.entries e × (e.func ≡ x))

-- at a call of an import the stack is chained, from what the host called to the import, of 4,096 activations at most
abbrev pub CallChained : Module → (ℕ → Type 0) → Event → Store → List Suspended → Type 0
CallChained m Root (called c) s stack = (root : ℕ) × Root root × Chained m s.table root c.import stack × (length stack ≤ 4096)
CallChained m Root _ s stack = Unit {0}

-- so it is at each call of a run with blocking imports
abbrev pub StacksChained : Type 0
StacksChained = (m : Module) (plan : Plan) (os : List Outcome) (n : ℕ) → All (λ (x : Note). CallChained m (IsRoot m plan) x.event x.store x.stack) (Blocking m plan os n).events

-- a pause is at a call of an import that the plan tells, where it tells any
abbrev pub PauseTold : Plan → Event → Option ℕ → Type 0
PauseTold plan event None = Unit {0}
PauseTold plan (called c) (Some ticks) = (listed : List Bool) → plan.listed ≡ Some listed → slice_get listed c.import ≡ Some true
PauseTold plan _ (Some ticks) = ⊥

-- so it is at each pause of a run with blocking imports
abbrev pub PausesTold : Type 0
PausesTold = (m : Module) (plan : Plan) (os : List Outcome) (n : ℕ) → All (λ (x : Note). PauseTold plan x.event x.pause) (Blocking m plan os n).events

-- at a call of a listed import each activation stands at a numbered call
abbrev pub ListedNumbered : Module → Settings → List Bool → Event → List Suspended → Type 0
ListedNumbered m s which (called c) stack = slice_get (Listed m s) c.import ≡ Some true → All (StandsNumbered m s which) stack
ListedNumbered m s which _ stack = Unit {0}

-- Where `call_indirect` isn't ignored, each activation below a call of a listed import stands at a numbered call of a
-- function that may pause,
abbrev pub CallsAtNumbers : Type 0
CallsAtNumbers =
    (m : Module) (s : Settings) (which : List Bool) (plan : Plan) (os : List Outcome) (n : ℕ)
    → TellsMayPause m s which → s.ignore_indirect ≡ false → All (λ (x : Note). ListedNumbered m s which x.event x.stack) (Blocking m plan os n).events

-- and so does each one that a pause suspends, where the plan tells the listed imports.
abbrev pub PausesAtNumbers : Type 0
PausesAtNumbers =
    (m : Module) (s : Settings) (which : List Bool) (plan : Plan) (os : List Outcome) (n : ℕ)
    → TellsMayPause m s which → s.ignore_indirect ≡ false → plan.listed ≡ Some (Listed m s) → PausesNumbered m s which (Blocking m plan os n).events

-- an activation that stands at an indirect call does so where these aren't ignored: where they are, it stands at none
abbrev pub IsHeeded : Module → Settings → Suspended → Type 0
IsHeeded m s a = (f : Func) (sort : ℕ) → defined_at m a.func ≡ Some f → slice_get (calls_in f) a.place ≡ Some (indirect sort) → s.ignore_indirect ≡ false

-- at a pause every activation of the stack is such
abbrev pub PauseHeeded : Module → Settings → List Suspended → Option ℕ → Type 0
PauseHeeded m s stack None = Unit {0}
PauseHeeded m s stack (Some ticks) = All (IsHeeded m s) stack

-- Where no suspended activation stands at an indirect call that is ignored, each stands at a numbered call.
abbrev pub HeededAtNumbers : Type 0
HeededAtNumbers =
    (m : Module) (s : Settings) (which : List Bool) (plan : Plan) (os : List Outcome) (n : ℕ)
    → TellsMayPause m s which → plan.listed ≡ Some (Listed m s) → All (λ (x : Note). PauseHeeded m s x.stack x.pause) (Blocking m plan os n).events
    → PausesNumbered m s which (Blocking m plan os n).events

-- ---- which entry a pause suspends

-- how many entries have returned once an event is made, where so many had before
abbrev pub onward : Event → ℕ → ℕ
onward (returned entry value) k = suc k
onward _ k = k

-- how many have returned behind these notes, where k had before them
abbrev pub returned_by : (k : ℕ) → List Note → ℕ
returned_by k [] = k
returned_by k (x ∷ xs) = returned_by (onward x.event k) xs

-- a note of a call whose stack is chained from the entry of this number to the import that is called, of 4,096 activations at
-- most
pub record EntryStack (m : Module) (plan : Plan) (number : ℕ) (x : Note) : Type 0 where
  pub entry : Entry
  pub at : slice_get plan.entries number ≡ Some entry
  pub call : Call
  pub is : x.event ≡ called call
  pub imported : call.import < func_imports m
  pub few : length x.stack ≤ 4096
  pub chained : Chained m x.store.table entry.func call.import x.stack

-- At each pause the stack is that of the entry that runs, never that of the start function: of the entry whose number is that
-- of the entries that have returned.
abbrev pub PausesOfEntries : Type 0
PausesOfEntries =
    (m : Module) (plan : Plan) (os : List Outcome) (n i ticks : ℕ) (x : Note)
    → slice_get (Blocking m plan os n).events i ≡ Some x → x.pause ≡ Some ticks → EntryStack m plan (returned_by 0 (take i (Blocking m plan os n).events)) x
