-- An instance as plain data, and how its calls turn out.
use Rattle.std.specs.Prelude.{◌≡◌, ◌<◌, ℕ, suc, ◌+◌, ◌-◌, nat_le, List, [], ◌∷◌, length, map, reverse, take, drop, Option, Some, None, Bool, true, false}
use Rattle.std.specs.Option.{option_to_list}
use Rattle.wa_types.specs.declared.values.ValType.{ValType}
use Rattle.wa_types.specs.declared.values.Value.{Value}
use Rattle.wa_types.specs.Syntax.{Func, Module}
use Rattle.wa_types.specs.Modules.{func_imports, func_type_at, defined_at}
use Rattle.wa_types.specs.View.{code}
use Rattle.wa_model.specs.Store.{Store}
use Rattle.wa_model.specs.Configuration.{Activation, Configuration, waiting}
use Rattle.wa_model.specs.Step.{entered}
use Rattle.wa_model.specs.Blocking.{resumed}
use Rattle.run_theory.specs.Alone.{it_returned, it_trapped, it_asks, it_spent, EndsAs}
use Rattle.run_theory.specs.Fitting.{types_of, results_of, StoreFits, CallersFit}
use Rattle.interp.specs.declared.turns.Turn.{Turn}
use Rattle.interp.specs.declared.turns.Turn.TheVariants.{Returned, Trapped, Waiting, StepsSpent}
use Rattle.interp.specs.declared.turns.Wait as W
use Rattle.interp.specs.declared.turns.Wait.TheVariants as WV
use Rattle.interp.specs.Runs.{LacksAt}
use Rattle.interp_state.specs.View.{label_of, waiting_of}

-- What waits for the answer of an import: nothing, the host, which called it itself, or an activation with those below it.
pub data Waits : Type 0 where
  nothing outermost : Waits
  inside : (here : Activation) → (under : List Activation) → Waits

-- what waits in an instance
abbrev pub waits_of : W.Wait → Waits
waits_of WV.Nothing = nothing
waits_of WV.Outermost = outermost
waits_of (WV.Inside k taken) =
    inside
    (waiting k.here.func k.here.locals.items (drop taken (reverse k.here.operands.items)) (take taken (reverse k.here.operands.items)) (code k.here.code.now)
    (map label_of (reverse k.here.labels.items)))
    (map waiting_of (reverse k.under.items))

-- the run came to stand at a configuration with this store
pub record TurnsSpent (m : Module) (c : Configuration) (left used : ℕ) (s : Store) : Type 0 where
  pub at : Configuration
  pub store_is : at.store ≡ s
  pub ends : EndsAs m c left used (it_spent at)

-- it waits in the activations that are told
pub record TurnsWaiting (m : Module) (c : Configuration) (left used import : ℕ) (args : List Value) (s : Store) (w : Waits) : Type 0 where
  pub at : Configuration
  pub store_is : at.store ≡ s
  pub waits : w ≡ inside at.here at.under
  pub ends : EndsAs m c left used (it_asks import args at)

-- How a run from c turned out, where it might pay so much and paid so much, with the store and what waits behind it.
abbrev pub Turns : Module → Configuration → (left used : ℕ) → Turn → Store → Waits → Type 0
Turns m c left used (Returned value) s w = EndsAs m c left used (it_returned (option_to_list value) s) × (w ≡ nothing)
Turns m c left used (Trapped trap) s w = EndsAs m c left used (it_trapped trap s) × (w ≡ nothing)
Turns m c left used (Waiting call) s w = TurnsWaiting m c left used call.import call.args.items s w
Turns m c left used StepsSpent s w = TurnsSpent m c left used s × (w ≡ nothing)

-- the turn is a call of this import
abbrev pub IsCall : Turn → (import : ℕ) → (args : List Value) → Type 0
IsCall (Waiting call) import args = (call.import ≡ import) × (call.args.items ≡ args)
IsCall _ import args = ⊥

-- a call of a defined function on a fresh stack: its cost is paid, and then it runs
pub record Enters (m : Module) (s : Store) (x : ℕ) (args : List Value) (f : Func) (left used : ℕ) (turn : Turn) (s' : Store) (w : Waits) : Type 0 where
  pub more : ℕ
  pub cost : used ≡ suc (length args) + more
  pub turns : Turns m (entered s [] args x f) (left - suc (length args)) more turn s' w

-- a call of an import from outside
pub record AsksAtOnce (s : Store) (x : ℕ) (args : List Value) (used : ℕ) (turn : Turn) (s' : Store) (w : Waits) : Type 0 where
  pub cost : used ≡ suc (length args)
  pub call : IsCall turn x args
  pub store_is : s' ≡ s
  pub waits : w ≡ outermost

-- a call whose own cost is more than is left
pub record TooDear (s : Store) (used : ℕ) (turn : Turn) (s' : Store) (w : Waits) : Type 0 where
  pub cost : used ≡ 0
  pub turn_is : turn ≡ StepsSpent
  pub store_is : s' ≡ s
  pub waits : w ≡ nothing

-- a call of a function: too dear, of a defined one, or of an import
abbrev pub CallsAs : Module → Store → ℕ → List Value → (dear : Bool) → Option Func → (left used : ℕ) → Turn → Store → Waits → Type 0
CallsAs m s x args true f left used turn s' w = TooDear s used turn s' w
CallsAs m s x args false (Some f) left used turn s' w = Enters m s x args f left used turn s' w
CallsAs m s x args false None left used turn s' w = AsksAtOnce s x args used turn s' w

-- How a call of a function from outside turned out, from a store s: it costs 1 and its arguments, and is followed by what
-- runs on a fresh stack.
abbrev pub Calls : Module → Store → (func : ℕ) → (args : List Value) → (left used : ℕ) → Turn → Store → Waits → Type 0
Calls m s x args left used turn s' w = CallsAs m s x args (nat_le left (length args)) (defined_at m x) left used turn s' w

-- How the answer of an import turned out.
abbrev pub Resumes : Module → Store → Waits → Option Value → (left used : ℕ) → Turn → Store → Waits → Type 0
Resumes m s nothing value left used turn s' w = ⊥
Resumes m s outermost value left used turn s' w = (used ≡ 0) × (turn ≡ Returned value) × (s' ≡ s) × (w ≡ nothing)
Resumes m s (inside here under) value left used turn s' w =
    Turns m (resumed (record { store = s; here = here; under = under }) s (option_to_list value)) left used turn s' w

-- ---- what fits

-- what waits goes on with values of the types `types`, and returns values of the types `outs` in the end
abbrev pub Awaits : Module → (outs types : List ValType) → Waits → Type 0
Awaits m outs types nothing = ⊥
Awaits m outs types outermost = types ≡ outs
Awaits m outs types (inside here under) = CallersFit m outs types (here ∷ under)

-- What is returned has its types; a call of an import has arguments of its types, and its result is awaited.
abbrev pub TurnFits : Module → (outs : List ValType) → Turn → Waits → Type 0
TurnFits m outs (Returned value) w = types_of (option_to_list value) ≡ outs
TurnFits m outs (Waiting call) w = (call.import < func_imports m) × (types_of call.args.items ≡ (func_type_at m call.import).params) × Awaits m outs (results_of m call.import) w
TurnFits m outs _ w = Unit {0}

-- behind a turn an instance of a valid module fits again
abbrev pub FitsAgain : Module → (outs : List ValType) → Turn → Store → Waits → Type 0
FitsAgain m outs turn s w = StoreFits m s × TurnFits m outs turn w

-- ---- want of memory

-- Where a call of a function from outside lacked memory: at its start, where nothing was paid and the store is as it was, or
-- where the run of the function took memory.
pub data CallLacks (m : Module) (s : Store) (x : ℕ) (args : List Value) (used : ℕ) (s' : Store) : Type 0 where
  at_start : used ≡ 0 → s' ≡ s → CallLacks m s x args used s'
  inside_run : (f : Func) → (more : ℕ) → defined_at m x ≡ Some f → used ≡ suc (length args) + more → LacksAt m (entered s [] args x f) more s' → CallLacks m s x args used s'

-- where the answer of an import lacked memory
abbrev pub ResumeLacks : Module → Store → Waits → Option Value → (used : ℕ) → Store → Type 0
ResumeLacks m s (inside here under) value used s' = LacksAt m (resumed (record { store = s; here = here; under = under }) s (option_to_list value)) used s'
ResumeLacks m s _ value used s' = ⊥
