-- The room that a stack's activations have, and what takes memory.
use Rattle.std.specs.Coded.{le_prop}
use Rattle.std.specs.Prelude.{ℕ, suc, List, [], ◌∷◌, ◌≡◌, ◌≤◌, Some, vec_capacity}
use Rattle.wa_types.specs.Counts.{depth_of}
use Rattle.wa_types.specs.Modules.{defined_at}
use Rattle.wa_types.specs.Syntax.{basic, call, call_indirect, memory_grow, Code, plain, Func, Module}
use Rattle.run_theory.specs.Growth.{Each}
use Rattle.run_theory.specs.Heights.{most_operands}
use Rattle.wa_model.specs.Step.{Next, asks}
use Rattle.interp_state.specs.declared.activation.Activation.{Activation}
use Rattle.interp_state.specs.declared.activation.Stack.{Stack}
use Rattle.interp_state.specs.declared.activation.Waiting.{Waiting}
use Rattle.interp_state.specs.declared.rooms.Room.{Room}

-- an activation that has reserved this much
pub record Reserves (a : Activation) (r : Room) : Type 0 where
  pub operands : vec_capacity a.operands ≡ r.operands
  pub labels : vec_capacity a.labels ≡ r.labels

-- an activation has the room that its function's activations reserve
pub record HasRoom (m : Module) (a : Activation) : Type 0 where
  pub operands : (f : Func) → defined_at m a.func ≡ Some f → most_operands m f.body 0 ≤ vec_capacity a.operands
  pub labels : (f : Func) → defined_at m a.func ≡ Some f → depth_of f.body ≤ vec_capacity a.labels

-- so do all activations of a stack, running or waiting
pub record StackRoom (m : Module) (k : Stack) : Type 0 where
  pub here : HasRoom m k.here
  pub under : Each (λ (w : Waiting). HasRoom m w.activation) k.under.items

-- the activation that runs is of the same function with no less room, above the same ones
pub record Roomier (k k' : Stack) : Type 0 where
  pub func : k'.here.func ≡ k.here.func
  pub operands : vec_capacity k.here.operands ≤ vec_capacity k'.here.operands
  pub labels : vec_capacity k.here.labels ≤ vec_capacity k'.here.labels
  pub under : k'.under ≡ k.under

-- a call, or an instruction that grows the memory, stands next
abbrev pub TakesMemory : Code → Type 0
TakesMemory (plain (call x) rest) = Unit {0}
TakesMemory (plain (call_indirect sort) rest) = Unit {0}
TakesMemory (plain (basic memory_grow) rest) = Unit {0}
TakesMemory _ = ⊥

-- What was paid for what comes next before it took memory: a call of an import is paid before its arguments are copied.
abbrev pub paid_for : Next → ℕ
paid_for (asks k import args d) = suc k
paid_for _ = 0

-- ---- of that there is one proof at most

each_prop : {X : Type 0} (P : X → Type 0) → ((x : X) → IsProp (P x)) → (xs : List X) → IsProp (Each P xs)
each_prop P p [] = hlevel
each_prop P p (x ∷ xs) = hlevel (p x, each_prop P p xs)

room_prop : (m : Module) (a : Activation) → IsProp (HasRoom m a)
room_prop m a = hlevel le_prop

pub stack_prop : (m : Module) (k : Stack) → IsProp (StackRoom m k)
stack_prop m k = hlevel (room_prop m k.here, each_prop (λ (w : Waiting). HasRoom m w.activation) (λ w. room_prop m w.activation) k.under.items)
