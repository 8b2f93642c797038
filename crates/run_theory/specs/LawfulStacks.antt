-- Suspended stacks as pauses of a valid module leave them.
use Rattle.std.specs.Prelude.{◌≡◌, ◌<◌, ◌≤◌, ℕ, List, [], ◌∷◌, length, map, Option, Some, Bool, true, All, slice_get}
use Rattle.wa_types.specs.declared.values.Value.{Value}
use Rattle.wa_types.specs.declared.values.Value.TheVariants as V
use Rattle.wa_types.specs.Syntax.{Func, Module}
use Rattle.wa_types.specs.Modules.{type_at, func_type_at, func_imports, locals_of, defined_at}
use Rattle.wa_types.specs.Typing.{type_of}
use Rattle.wa_types.specs.Sizes.{value_fits}
use Rattle.wa_types.specs.Pausing.{Callee, direct, indirect, calls_in, Settings}
use Rattle.wa_types.specs.Points.{func_call_points}
use Rattle.wa_types.specs.Frames.{Suspended}
use Rattle.wa_model.specs.Step.{same_func_type}
use Rattle.wa_model.specs.Behaves.{StandsNumbered}

-- ---- one activation

-- its values lie in the ranges of their types
pub record SuspendedIn (a : Suspended) : Type 0 where
  pub locals : All value_fits a.locals
  pub operands : All value_fits a.operands

-- A suspended activation of a defined function: it stands at a call of its pruned body; its locals have their types, its
-- operands those of the point just before that call, and all lie in the ranges of their types.
pub record LawfulActivation (m : Module) (a : Suspended) : Type 0 where
  pub func : Func
  pub defined : defined_at m a.func ≡ Some func
  pub call : Callee
  pub place : slice_get (calls_in func) a.place ≡ Some call
  pub locals : map type_of a.locals ≡ locals_of m func
  pub operands : slice_get (func_call_points m func) a.place ≡ Some (map type_of a.operands)
  pub values : SuspendedIn a

-- ---- how one leads to the next

-- How a call leads to a function: a direct one by its index, an indirect one through the table, at the number that is the
-- topmost operand, where the function has the type that the call names.
abbrev pub LeadsTo : Module → (table : List (Option ℕ)) → Callee → (operands : List Value) → ℕ → Type 0
LeadsTo m table (direct y) operands x = y ≡ x
LeadsTo m table (indirect sort) operands x =
    (n : ℕ) × (rest : List Value) × (operands ≡ V.I32 n ∷ rest) × (slice_get table n ≡ Some (Some x)) × (same_func_type (func_type_at m x) (type_at m sort) ≡ true)

-- A stack, the innermost activation first, which waits for a function: each stands at a call of its pruned body that
-- leads to what is next inwards, and the outermost is one of this function.
abbrev pub Chained : Module → (table : List (Option ℕ)) → (outermost waits_for : ℕ) → List Suspended → Type 0
Chained m table root x [] = x ≡ root
Chained m table root x (a ∷ stack) =
    (f : Func) × (c : Callee) × (defined_at m a.func ≡ Some f) × (slice_get (calls_in f) a.place ≡ Some c) × LeadsTo m table c a.operands x × Chained m table root a.func stack

-- ---- the whole

-- A stack that a pause suspends: of 4,096 activations at most, each lawful and at a numbered call of an instrumented function.
-- The outermost is of the entry's function, the innermost calls the suspended import, and each other one calls the function of
-- the next one inwards, an indirect call through this table. `which` tells the functions that may pause.
pub record LawfulStack (m : Module) (s : Settings) (which : List Bool) (table : List (Option ℕ)) (entry import : ℕ) (stack : List Suspended) : Type 0 where
  pub few : length stack ≤ 4096
  pub each : All (LawfulActivation m) stack
  pub numbered : All (StandsNumbered m s which) stack
  pub entered : (f : Func) × (defined_at m entry ≡ Some f)
  pub imported : import < func_imports m
  pub chained : Chained m table entry import stack
