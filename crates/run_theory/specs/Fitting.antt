-- Configurations that fit a valid module: each value has its type, and all code that stands has its type over the operands
-- there (standard, section 7.5, soundness). From such a configuration there is always a reduction.
use Rattle.std.specs.Prelude.{◌≡◌, ◌<◌, ◌≤◌, ℕ, suc, List, [], ◌∷◌, ◌++◌, length, map, Option, Some, None, slice_get}
use Rattle.wa_types.specs.declared.values.ValType.{ValType}
use Rattle.wa_types.specs.declared.values.Value.{Value}
use Rattle.wa_types.specs.Counts.{depth_of}
use Rattle.wa_types.specs.Syntax.{Code, Func, Module}
use Rattle.wa_types.specs.Typing.{GlobalType, Around, listed, type_of, Types}
use Rattle.wa_types.specs.Modules.{imported, imported_global, func_sorts, func_imports, all_globals, func_type_at, defined_at, locals_of, around}
use Rattle.wa_types.specs.Validity.{Valid}
use Rattle.wa_model.specs.Store.{Store}
use Rattle.wa_model.specs.Configuration.{Label, block_label, loop_label, Activation, Configuration}
use Rattle.wa_model.specs.Step.{Next, steps, asks, returns, traps, stuck, arity_of, entered, step}
use Rattle.run_theory.specs.Heights.{most_operands, Within}
use Rattle.wa_model.specs.Instantiation.{opening, opens}
use Rattle.wa_model.specs.Blocking.{resumed}
use Rattle.run_theory.specs.Alone.{Goes, Finish, it_returned, it_trapped, it_asks, it_spent, EndsAs}
use Rattle.run_theory.specs.Growth.{Each, EntryNamed}

-- the types of values
abbrev pub types_of : List Value → List ValType
types_of values = map type_of values

-- the types of globals
abbrev pub global_types : List GlobalType → List ValType
global_types gs = map (λ (g : GlobalType). g.ty) gs

-- the result of the function of this index, as a list
abbrev pub results_of : Module → ℕ → List ValType
results_of m fn = listed (slice_get (func_type_at m fn).results 0)

-- A store: globals have their types, and each element of the table that is initialised names a function (7.5.2).
pub record StoreFits (m : Module) (s : Store) : Type 0 where
  pub globals : types_of s.globals ≡ global_types (all_globals m)
  pub table : Each (EntryNamed (length (func_sorts m))) s.table

-- Code inside labels. It takes its own operands, of the types `own`, to the result of its construct; what stands behind the
-- construct goes on from that result above its own operands, and so on outwards. `below` are the types of all operands below
-- `own`: a label's height counts them. `results` are what branches to the labels take, the function's own last. No code that
-- stands there goes higher than `top` operands or deeper than `deep` labels.
unfoldable pub Stands : Module → (top deep : ℕ) → Around → (results : List (Option ValType)) → List Label → Code → (own below : List ValType) → Type 0
Stands m top deep c results [] code own below =
    (results ≡ c.result ∷ []) × (below ≡ []) × Types c results code (listed c.result) own × Within m top deep code (length (own ++ below)) 0
Stands m top deep c results (block_label height arity rest skipped ∷ labels) code own below =
    (r : Option ValType) × (outer : List (Option ValType)) × (outer_own : List ValType) × (outer_below : List ValType)
    × (results ≡ r ∷ outer) × (below ≡ outer_own ++ outer_below) × (height ≡ length below) × (arity ≡ arity_of r)
    × Types c results code (listed r) own × Within m top deep code (length (own ++ below)) (suc (length labels))
    × Stands m top deep c outer labels rest (listed r ++ outer_own) outer_below
Stands m top deep c results (loop_label height body rest ∷ labels) code own below =
    (r : Option ValType) × (outer : List (Option ValType)) × (outer_own : List ValType) × (outer_below : List ValType)
    × (results ≡ None ∷ outer) × (below ≡ outer_own ++ outer_below) × (height ≡ length below)
    × Types c results body (listed r) [] × Within m top deep body (length below) (suc (length labels))
    × Types c results code (listed r) own × Within m top deep code (length (own ++ below)) (suc (length labels))
    × Stands m top deep c outer labels rest (listed r ++ outer_own) outer_below

-- An activation of a defined function, with its code inside its labels over operands of these types (7.5.3, 7.5.4). It goes
-- no higher and no deeper than the function's body does from its start.
pub record ActFits (m : Module) (fn : ℕ) (locals : List Value) (code : Code) (labels : List Label) (types : List ValType) : Type 0 where
  pub func : Func
  pub func_is : defined_at m fn ≡ Some func
  pub locals_fit : types_of locals ≡ locals_of m func
  pub results : List (Option ValType)
  pub own : List ValType
  pub below : List ValType
  pub types_are : types ≡ own ++ below
  pub stands : Stands m (most_operands m func.body 0) (depth_of func.body) (around m func) results labels code own below

-- Activations that wait, the innermost first, which gets operands of these types from what it waits for. The outermost
-- returns values of the types `outs`.
abbrev pub CallersFit : Module → (outs types : List ValType) → List Activation → Type 0
CallersFit m outs types [] = types ≡ outs
CallersFit m outs types (a ∷ under) = ActFits m a.func a.locals a.code a.labels (types ++ types_of a.operands) × CallersFit m outs (results_of m a.func) under

-- A configuration whose innermost activation runs, and which returns values of these types in the end (7.5.3).
pub record Fits (m : Module) (outs : List ValType) (c : Configuration) : Type 0 where
  pub store : StoreFits m c.store
  pub here : ActFits m c.here.func c.here.locals c.here.code c.here.labels (types_of c.here.operands)
  pub under : CallersFit m outs (results_of m c.here.func) c.under

-- A configuration that waits for the results of the function of this index.
pub record WaitingFits (m : Module) (outs : List ValType) (fn : ℕ) (c : Configuration) : Type 0 where
  pub store : StoreFits m c.store
  pub waits : CallersFit m outs (results_of m fn) (c.here ∷ c.under)

-- There is a reduction. Where it goes on, what comes next fits again; a call of an import has arguments of its types, and
-- what is returned has the types of the results.
abbrev pub NextFits : Module → List ValType → Next → Type 0
NextFits m outs (steps k d) = Fits m outs d
NextFits m outs (asks k import args d) = (import < func_imports m) × (types_of args ≡ (func_type_at m import).params) × WaitingFits m outs import d
NextFits m outs (returns k values s) = StoreFits m s × (types_of values ≡ outs)
NextFits m outs (traps k trap s) = StoreFits m s
NextFits m outs stuck = ⊥

-- So does each end of reductions.
abbrev pub EndFits : Module → List ValType → Finish → Type 0
EndFits m outs (it_returned values s) = StoreFits m s × (types_of values ≡ outs)
EndFits m outs (it_trapped trap s) = StoreFits m s
EndFits m outs (it_asks import args d) = (import < func_imports m) × (types_of args ≡ (func_type_at m import).params) × WaitingFits m outs import d
EndFits m outs (it_spent d) = Fits m outs d

-- ---- laws

-- An instance of a valid module whose imported globals have values of their types fits.
abbrev pub OpeningsFit : Type 0
OpeningsFit =
    (m : Module) (imports : List Value) (s : Store)
    → Valid m → types_of imports ≡ global_types (imported imported_global m) → opening m imports ≡ opens s → StoreFits m s

-- So does a call of a defined function with arguments of its types,
abbrev pub CallsFit : Type 0
CallsFit =
    (m : Module) (s : Store) (args : List Value) (x : ℕ) (f : Func)
    → Valid m → StoreFits m s → defined_at m x ≡ Some f → types_of args ≡ (func_type_at m x).params → Fits m (results_of m x) (entered s [] args x f)

-- and what waits, with values of the types that it waits for, in any store that fits.
abbrev pub AnswersFit : Type 0
AnswersFit =
    (m : Module) (outs : List ValType) (c : Configuration) (s : Store) (values : List Value)
    → StoreFits m s → CallersFit m outs (types_of values) (c.here ∷ c.under) → Fits m outs (resumed c s values)

-- From a configuration that fits there is a reduction: it goes on to one that fits again, or returns, traps or asks.
abbrev pub StepsFit : Type 0
StepsFit = (m : Module) (outs : List ValType) (c : Configuration) → Valid m → Fits m outs c → NextFits m outs (step m c)

-- All that is reached fits.
abbrev pub StretchesFit : Type 0
StretchesFit = (m : Module) (outs : List ValType) (c d : Configuration) (cost : ℕ) → Valid m → Fits m outs c → Goes m c cost d → Fits m outs d

-- And so do the ends.
abbrev pub EndsFit : Type 0
EndsFit = (m : Module) (outs : List ValType) (c : Configuration) (left used : ℕ) (end : Finish) → Valid m → Fits m outs c → EndsAs m c left used end → EndFits m outs end

-- The operands and labels of an activation that fits are no more than those of its function's body at most.
pub record ActWithin (m : Module) (a : Activation) (types : List ValType) : Type 0 where
  pub func : Func
  pub func_is : defined_at m a.func ≡ Some func
  pub operands : length types ≤ most_operands m func.body 0
  pub labels : length a.labels ≤ depth_of func.body

-- An activation that fits is within these.
abbrev pub HeightsWithin : Type 0
HeightsWithin = (m : Module) (a : Activation) (types : List ValType) → ActFits m a.func a.locals a.code a.labels types → ActWithin m a types
