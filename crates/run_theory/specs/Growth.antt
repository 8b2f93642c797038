-- A module with more parts behind its own: its own functions stand where they stood, and do what they did.
use Rattle.std.specs.Prelude.{◌≡◌, ℕ, ◌<◌, ◌++◌, List, [], ◌∷◌, map, length, Option, Some, None, true}
use Rattle.wa_types.specs.declared.values.Value.{Value}
use Rattle.wa_types.specs.declared.syntax.Export.{Export}
use Rattle.wa_types.specs.Syntax.{Basic, global_get, global_set, Plain, basic, call, call_indirect, Code, done, plain, nest, branch, FuncType, Func, GlobalDef, Module}
use Rattle.wa_types.specs.Modules.{imported, imported_global, func_sorts, all_globals, defined_at}
use Rattle.wa_types.specs.Typing.{GlobalType}
use Rattle.wa_ops.specs.Operate.{are_of}
use Rattle.wa_types.specs.Validity.{Valid}
use Rattle.wa_types.specs.Base.{Base}
use Rattle.wa_types.specs.Runtime.{with_runtime}
use Rattle.wa_model.specs.Store.{Store}
use Rattle.wa_model.specs.Configuration.{Label, block_label, loop_label, Activation, Configuration}
use Rattle.wa_model.specs.Step.{Next, steps, asks, returns, traps, stuck, entered, step}
use Rattle.wa_model.specs.Instantiation.{constant_value, Opening, fails_as, opens, opening}
use Rattle.run_theory.specs.Alone.{Goes, Finish, it_returned, it_trapped, it_asks, it_spent, EndsAs}

-- the module with these types, functions, globals and exports behind its own
abbrev pub grown_module : Module → List FuncType → List Func → List GlobalDef → List Export → Module
grown_module m types funcs globals exports =
    record m { types = m.types ++ types; funcs = m.funcs ++ funcs; globals = m.globals ++ globals; exports = m.exports ++ exports }

-- ---- what names only what is there

-- How many types, functions and globals a module has, imports included.
pub record Spaces : Type 0 where
  pub types : ℕ
  pub funcs : ℕ
  pub globals : ℕ

-- how many a module has
abbrev pub spaces_of : Module → Spaces
spaces_of m = record { types = length m.types; funcs = length (func_sorts m); globals = length (all_globals m) }

-- each element of a list
abbrev pub Each : {X : Type 0} → (X → Type 0) → List X → Type 0
Each P [] = Unit {0}
Each P (x ∷ xs) = P x × Each P xs

-- an instruction on operands and the store names only globals that are there
abbrev pub BasicNamed : (globals : ℕ) → Basic → Type 0
BasicNamed globals (global_get x) = x < globals
BasicNamed globals (global_set x) = x < globals
BasicNamed globals _ = Unit {0}

-- an instruction names only types, functions and globals that are there
abbrev pub PlainNamed : Spaces → Plain → Type 0
PlainNamed n (basic b) = BasicNamed n.globals b
PlainNamed n (call x) = x < n.funcs
PlainNamed n (call_indirect sort) = sort < n.types
PlainNamed n _ = Unit {0}

-- code names only types, functions and globals that are there
abbrev pub CodeNamed : Spaces → Code → Type 0
CodeNamed n done = Unit {0}
CodeNamed n (plain p rest) = PlainNamed n p × CodeNamed n rest
CodeNamed n (nest s r body rest) = CodeNamed n body × CodeNamed n rest
CodeNamed n (branch r a b rest) = CodeNamed n a × CodeNamed n b × CodeNamed n rest

-- the code that a branch to a label, or the end of its construct, goes on with
abbrev pub LabelNamed : Spaces → Label → Type 0
LabelNamed n (block_label height arity rest skipped) = CodeNamed n rest
LabelNamed n (loop_label height body rest) = CodeNamed n body × CodeNamed n rest

-- an activation of a function that is there, whose code and labels name only what is there
pub record ActNamed (n : Spaces) (a : Activation) : Type 0 where
  pub func : a.func < n.funcs
  pub code : CodeNamed n a.code
  pub labels : Each (LabelNamed n) a.labels

-- an element of a table is none, or a function that is there
abbrev pub EntryNamed : (funcs : ℕ) → Option ℕ → Type 0
EntryNamed funcs None = Unit {0}
EntryNamed funcs (Some x) = x < funcs

-- a store of a module with so many globals and functions
pub record StoreNamed (n : Spaces) (s : Store) : Type 0 where
  pub globals : length s.globals ≡ n.globals
  pub table : Each (EntryNamed n.funcs) s.table

-- A configuration of a module of these spaces, whose code names only what is there.
pub record ConfigNamed (n : Spaces) (c : Configuration) : Type 0 where
  pub store : StoreNamed n c.store
  pub here : ActNamed n c.here
  pub under : Each (ActNamed n) c.under

-- what comes next is of such configurations and stores, and an import that is called is there
abbrev pub NextNamed : Spaces → Next → Type 0
NextNamed n (steps k d) = ConfigNamed n d
NextNamed n (asks k import args d) = (import < n.funcs) × ConfigNamed n d
NextNamed n (returns k values s) = StoreNamed n s
NextNamed n (traps k trap s) = StoreNamed n s
NextNamed n stuck = Unit {0}

-- ---- with more globals behind

-- a store with more globals
abbrev pub grown_store : List Value → Store → Store
grown_store more s = record { globals = s.globals ++ more; memory = s.memory; table = s.table }

-- a configuration with more globals
abbrev pub grown_config : List Value → Configuration → Configuration
grown_config more c = record { store = grown_store more c.store; here = c.here; under = c.under }

-- what comes next, with more globals
abbrev pub grown_next : List Value → Next → Next
grown_next more (steps k d) = steps k (grown_config more d)
grown_next more (asks k import args d) = asks k import args (grown_config more d)
grown_next more (returns k values s) = returns k values (grown_store more s)
grown_next more (traps k trap s) = traps k trap (grown_store more s)
grown_next more stuck = stuck

-- an end of reductions, with more globals
abbrev pub grown_finish : List Value → Finish → Finish
grown_finish more (it_returned values s) = it_returned values (grown_store more s)
grown_finish more (it_trapped trap s) = it_trapped trap (grown_store more s)
grown_finish more (it_asks import args d) = it_asks import args (grown_config more d)
grown_finish more (it_spent d) = it_spent (grown_config more d)

-- Two modules fail to open by the same end, or open with stores of which the second has more globals.
abbrev pub OpensGrown : List Value → Spaces → (o o' : Opening) → Type 0
OpensGrown more n (fails_as how) o' = o' ≡ fails_as how
OpensGrown more n (opens s) o' = (o' ≡ opens (grown_store more s)) × StoreNamed n s

-- ---- laws

-- With values for its imported globals of their types, a valid module with more parts behind its own opens as it did.
abbrev pub InstancesStay : Type 0
InstancesStay =
    (m : Module) (types : List FuncType) (funcs : List Func) (globals : List GlobalDef) (exports : List Export) (imports : List Value)
    → Valid m → are_of (map (λ (g : GlobalType). g.ty) (imported imported_global m)) imports ≡ true
    → OpensGrown (map (λ (g : GlobalDef). constant_value imports g.init) globals) (spaces_of m) (opening m imports) (opening (grown_module m types funcs globals exports) imports)

-- A configuration of a valid module has, in the module with more parts behind its own and with more globals, the same
-- reduction at the same cost, and comes to the same end; it leads to such a configuration again.
abbrev pub StepsStay : Type 0
StepsStay =
    (m : Module) (types : List FuncType) (funcs : List Func) (globals : List GlobalDef) (exports : List Export) (more : List Value) (c : Configuration)
    → Valid m → ConfigNamed (spaces_of m) c
    → (step (grown_module m types funcs globals exports) (grown_config more c) ≡ grown_next more (step m c)) × NextNamed (spaces_of m) (step m c)

-- So it is with the runtime's parts, where the module has the memory that it is compared with.
abbrev pub RuntimeStepsStay : Type 0
RuntimeStepsStay =
    (m : Module) (more : List Value) (c : Configuration) → Valid m → ConfigNamed (spaces_of m) c
    → (step (with_runtime m) (grown_config more c) ≡ grown_next more (step (Base m) c)) × NextNamed (spaces_of m) (step (Base m) c)

-- A valid module is valid with that memory.
abbrev pub BaseIsValid : Type 0
BaseIsValid = (m : Module) → Valid m → Valid (Base m)

-- A call of a function of a valid module leads to such a configuration.
abbrev pub CallsAreNamed : Type 0
CallsAreNamed =
    (m : Module) (s : Store) (args : List Value) (x : ℕ) (f : Func)
    → Valid m → StoreNamed (spaces_of m) s → defined_at m x ≡ Some f → ConfigNamed (spaces_of m) (entered s [] args x f)

-- Reductions in a row stay too, at their cost.
abbrev pub StretchesStay : Type 0
StretchesStay =
    (m : Module) (types : List FuncType) (funcs : List Func) (globals : List GlobalDef) (exports : List Export) (more : List Value) (c d : Configuration) (cost : ℕ)
    → Valid m → ConfigNamed (spaces_of m) c → Goes m c cost d
    → Goes (grown_module m types funcs globals exports) (grown_config more c) cost (grown_config more d) × ConfigNamed (spaces_of m) d

-- And they come to the same end, whatever they may cost.
abbrev pub EndsStay : Type 0
EndsStay =
    (m : Module) (types : List FuncType) (funcs : List Func) (globals : List GlobalDef) (exports : List Export) (more : List Value) (c : Configuration) (left used : ℕ) (end : Finish)
    → Valid m → ConfigNamed (spaces_of m) c → EndsAs m c left used end
    → EndsAs (grown_module m types funcs globals exports) (grown_config more c) left used (grown_finish more end)
