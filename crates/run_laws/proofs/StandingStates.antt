-- Where activations stand in their functions' bodies, as calls that are left, and how each one's call leads to the next inwards.
use Rattle.std.specs.Prelude.{◌≡◌, ◌<◌, ◌≤◌, ℕ, List, [], ◌∷◌, ◌++◌, length, Option, Some}
use Rattle.wa_types.specs.Pruned.{pruned}
use Rattle.wa_types.specs.Pausing.{Callee, calls_of, calls_in}
use Rattle.wa_types.specs.Syntax.{Code, Func, Module}
use Rattle.wa_types.specs.Modules.{func_imports, defined_at}
use Rattle.wa_model.specs.Configuration.{Label, block_label, loop_label, Activation, Configuration, calls_behind}
use Rattle.wa_model.specs.Step.{Next, steps, asks, returns, traps, stuck}
use Rattle.run_theory.specs.LawfulStacks.{LeadsTo}

-- all calls from code on
abbrev pub calls_from : Code → List Label → List Callee
calls_from code labels = calls_of (pruned code) ++ calls_behind labels

-- they are the last ones of a function's calls
abbrev pub Remains : List Callee → Code → List Label → Type 0
Remains all code labels = (before : List Callee) × (all ≡ before ++ calls_from code labels)

-- so is what a branch to a label goes on with
abbrev pub LabelsRemain : List Callee → List Label → Type 0
LabelsRemain all [] = Unit {0}
LabelsRemain all (block_label height arity rest skipped ∷ labels) = Remains all rest labels × LabelsRemain all labels
LabelsRemain all (loop_label height body rest ∷ labels) = Remains all body (loop_label height body rest ∷ labels) × Remains all rest labels × LabelsRemain all labels

-- code of a function stands here
abbrev pub StandsAt : Module → ℕ → Code → List Label → Type 0
StandsAt m fn code labels = (f : Func) × (defined_at m fn ≡ Some f) × Remains (calls_in f) code labels × LabelsRemain (calls_in f) labels

-- a function's code stands just behind this call
abbrev pub WaitsAt : Module → Callee → ℕ → Code → List Label → Type 0
WaitsAt m c fn code labels =
    (f : Func) × (before : List Callee) × (defined_at m fn ≡ Some f) × (calls_in f ≡ before ++ c ∷ calls_from code labels) × LabelsRemain (calls_in f) labels

-- the activations that wait, the innermost first, which waits for this function
abbrev pub CallersAt : Module → (table : List (Option ℕ)) → (outermost waits_for : ℕ) → List Activation → Type 0
CallersAt m table root x [] = x ≡ root
CallersAt m table root x (a ∷ under) = (c : Callee) × LeadsTo m table c (a.taken ++ a.operands) x × WaitsAt m c a.func a.code a.labels × CallersAt m table root a.func under

pub record ConfigurationAt (m : Module) (table : List (Option ℕ)) (root : ℕ) (c : Configuration) : Type 0 where
  pub same : c.store.table ≡ table
  pub here : StandsAt m c.here.func c.here.code c.here.labels
  pub under : CallersAt m table root c.here.func c.under
  pub few : length c.under < 4096

-- a configuration that waits for this import
pub record WaitingAt (m : Module) (table : List (Option ℕ)) (root import : ℕ) (c : Configuration) : Type 0 where
  pub same : c.store.table ≡ table
  pub stack : CallersAt m table root import (c.here ∷ c.under)
  pub few : length (c.here ∷ c.under) ≤ 4096
  pub imported : import < func_imports m

abbrev pub NextAt : Module → (table : List (Option ℕ)) → (root : ℕ) → Next → Type 0
NextAt m table root (steps k d) = ConfigurationAt m table root d
NextAt m table root (asks k import args d) = WaitingAt m table root import d
NextAt m table root (returns k values s) = s.table ≡ table
NextAt m table root (traps k trap s) = s.table ≡ table
NextAt m table root stuck = Unit {0}
