-- What control does to the innermost activation of a stack.
use Rattle.std.specs.Prelude.{◌≡◌, ℕ, List, [], ◌∷◌, ◌++◌, map, reverse, take, drop}
use Rattle.wa_types.specs.declared.values.Value.{Value}
use Rattle.wa_types.specs.declared.values.Value.TheVariants as V
use Rattle.wa_types.specs.Syntax.{Func, Module, Plain, Code}
use Rattle.wa_types.specs.Modules.{declared_locals, defined_at}
use Rattle.wa_types.specs.View.{code}
use Rattle.wa_model.specs.Store.{Store}
use Rattle.wa_model.specs.Step.{Next, zero_of, jump, finish, leave, stuck, invoke, with_number, step_plain, step_at}
use Rattle.interp_state.specs.declared.activation.Activation.{Activation}
use Rattle.interp_state.specs.declared.activation.Stack.{Stack}
use Rattle.interp_state.specs.View.{label_of, waiting_of}

-- the results go to the caller
abbrev pub leave_of : Store → ℕ → Stack → ℕ → Next
leave_of s more k arity = leave more s (reverse k.here.operands.items) arity (map waiting_of (reverse k.under.items))

-- a branch
abbrev pub jump_of : Module → Store → ℕ → Stack → ℕ → Next
jump_of m s more k label =
    jump more m s k.here.func (map waiting_of (reverse k.under.items)) k.here.locals.items (reverse k.here.operands.items) (map label_of (reverse k.here.labels.items)) label

-- the end of a sequence
abbrev pub finish_of : Module → Store → Stack → Next
finish_of m s k =
    finish m s k.here.func (map waiting_of (reverse k.under.items)) k.here.locals.items (reverse k.here.operands.items) (map label_of (reverse k.here.labels.items))

-- a call that takes so many operands itself, and then the arguments
abbrev pub invoke_of : Module → Store → Stack → (own params x : ℕ) → Next
invoke_of m s k own params x =
    invoke m s k.here.func (map waiting_of (reverse k.under.items)) k.here.locals.items (take own (reverse k.here.operands.items)) (drop own (reverse k.here.operands.items))
    (code k.here.code.now) (map label_of (reverse k.here.labels.items)) params x (defined_at m x)

-- an instruction, with the code of the activation behind it
abbrev pub plain_of : Module → Store → Stack → Plain → Next
plain_of m s k p =
    step_plain m s k.here.func (map waiting_of (reverse k.under.items)) k.here.locals.items (reverse k.here.operands.items)
    (map label_of (reverse k.here.labels.items)) (code k.here.code.now) p

-- code, in place of that of the activation
abbrev pub code_of : Module → Store → Stack → Code → Next
code_of m s k =
    step_at m s k.here.func (map waiting_of (reverse k.under.items)) k.here.locals.items (reverse k.here.operands.items) (map label_of (reverse k.here.labels.items))

-- an i32 lies topmost
pub record HasNumber (ops : List Value) (n : ℕ) : Type 0 where
  pub is : ops ≡ V.I32 n ∷ drop 1 ops

-- none does
pub record LacksNumber (ops : List Value) : Type 0 where
  pub is : (on : ℕ → List Value → Next) → with_number ops on ≡ stuck

-- an activation of this function that has just been entered
pub record IsEntered (a : Activation) (func : ℕ) (args : List Value) (f : Func) : Type 0 where
  pub func_is : a.func ≡ func
  pub locals : a.locals.items ≡ args ++ map zero_of (declared_locals f.locals)
  pub operands : a.operands.items ≡ []
  pub code_is : code a.code.now ≡ f.body
  pub labels : a.labels.items ≡ []
