-- What stands at one moment of a run: the store and the activations (standard, section 4.2).
use Rattle.std.specs.Prelude.{ℕ, suc, ◌+◌, ◌-◌, ◌++◌, List, [], ◌∷◌, length, map, Option, Some, None}
use Rattle.wa_types.specs.declared.values.Value.{Value}
use Rattle.wa_types.specs.Syntax.{Code, Func, Module}
use Rattle.wa_types.specs.Pruned.{pruned}
use Rattle.wa_types.specs.Modules.{defined_at}
use Rattle.wa_types.specs.Pausing.{Callee, calls_of, calls_in}
use Rattle.wa_types.specs.Frames.{Suspended}
use Rattle.wa_model.specs.Store.{Store}

-- A label: what a branch to it goes on with, and what is left behind it (4.2.12). `height` counts the operands below the construct.
pub data Label : Type 0 where
  block_label : (height arity : ℕ) → (rest skipped : Code) → Label  -- of a block or an if: a branch carries so many values and goes on behind it; `skipped` is the arm behind the one that runs
  loop_label : (height : ℕ) → (body rest : Code) → Label  -- of a loop: a branch carries none and begins the body again

-- An activation of a defined function (4.2.12): its index, locals and operands, the topmost first, those that the call took at which it
-- waits, the code that stands next, and the labels around it, the innermost first.
pub record Activation : Type 0 where
  pub func : ℕ
  pub locals : List Value
  pub operands : List Value
  pub taken : List Value
  pub code : Code
  pub labels : List Label

-- A configuration (4.2.13): the store, the activation that runs, and those that wait below it, the innermost first.
pub record Configuration : Type 0 where
  pub store : Store
  pub here : Activation
  pub under : List Activation

-- a configuration whose innermost activation runs
abbrev pub running : Store → ℕ → List Activation → (locals operands : List Value) → Code → List Label → Configuration
running s fn under ls ops code labels = record { store = s; here = record { func = fn; locals = ls; operands = ops; taken = []; code = code; labels = labels }; under = under }

-- an activation that waits at a call, which took operands from it
abbrev pub waiting : ℕ → (locals operands taken : List Value) → Code → List Label → Activation
waiting fn ls ops taken code labels = record { func = fn; locals = ls; operands = ops; taken = taken; code = code; labels = labels }

-- how many calls stand in code that can be reached
abbrev pub call_count : Code → ℕ
call_count code = length (calls_of (pruned code))

-- the calls of the pruned body that stand behind, past the ends of the constructs around
abbrev pub calls_behind : List Label → List Callee
calls_behind [] = []
calls_behind (block_label height arity rest skipped ∷ labels) = calls_of (pruned skipped) ++ (calls_of (pruned rest) ++ calls_behind labels)
calls_behind (loop_label height body rest ∷ labels) = calls_of (pruned rest) ++ calls_behind labels

-- how many they are
abbrev pub calls_outside : List Label → ℕ
calls_outside labels = length (calls_behind labels)

-- the place of the call just before this code: all calls of the body without those from here on, and without it
abbrev pub place_of : Option Func → Code → List Label → ℕ
place_of None code labels = 0
place_of (Some f) code labels = length (calls_in f) - suc (call_count code + calls_outside labels)

-- an activation that waits at a call, as it stood just before
abbrev pub suspended : Module → Activation → Suspended
suspended m a = record { func = a.func; place = place_of (defined_at m a.func) a.code a.labels; locals = a.locals; operands = a.taken ++ a.operands }

-- the stack of a configuration that waits at a call, the innermost activation first
abbrev pub stack_of : Module → Configuration → List Suspended
stack_of m c = map (suspended m) (c.here ∷ c.under)
