-- Where runs stand over stores that fit the module: values have their types, and all code that stands has its type.
use Rattle.std.specs.Prelude.{◌≡◌, ◌<◌, ℕ, List, [], ◌∷◌, length, Some, All}
use Rattle.std.specs.Option.{option_to_list}
use Rattle.wa_types.specs.declared.values.ValType.{ValType}
use Rattle.wa_types.specs.declared.values.ValType.TheVariants.{I32}
use Rattle.wa_types.specs.Syntax.{Func, Module}
use Rattle.wa_types.specs.Modules.{func_imports, func_sorts, func_type_at, defined_at}
use Rattle.wa_model.specs.declared.answers.Said.{Said}
use Rattle.wa_model.specs.declared.answers.Said.TheVariants as S
use Rattle.wa_model.specs.Configuration.{Configuration}
use Rattle.wa_model.specs.Plan.{Entry}
use Rattle.wa_model.specs.Blocking.{Task, the_start, an_entry, Left, State, between, begins, runs, halts}
use Rattle.wa_model.specs.Protocol.{exports_of, Phase, is_running, unwinds, rewinds, Then, give_zero, test_unwound, pause_there, call_again, test_rewound, give_answer, Held, free, starting}
use Rattle.wa_model.specs.Protocol.{busy, calling, aside, entering, over}
use Rattle.run_theory.specs.Fitting.{types_of, results_of, StoreFits, CallersFit, Fits}

-- a defined function that takes operands of these types
abbrev pub Callable : Module → ℕ → List ValType → Type 0
Callable m x params = ((f : Func) × (defined_at m x ≡ Some f)) × ((func_type_at m x).params ≡ params)

-- an entry of a defined function, with arguments of its types
abbrev pub EntryTyped : Module → Entry → Type 0
EntryTyped m e = ((f : Func) × (defined_at m e.func ≡ Some f)) × (types_of e.args ≡ (func_type_at m e.func).params)

-- so is each entry that is left
abbrev pub LeftTyped : Module → Left → Type 0
LeftTyped m l = All (EntryTyped m) l.entries

-- there is an entry that is to be called
abbrev pub SomeLeft : List Entry → Type 0
SomeLeft [] = ⊥
SomeLeft (e ∷ es) = Unit {0}

-- a start function that is there, and takes nothing
abbrev pub StartTyped : Module → ℕ → Type 0
StartTyped m x = ((func_type_at m x).params ≡ []) × (x < length (func_sorts m))

-- Where a run with blocking imports stands: its store fits, so does code that runs, and so do the entries that are left.
abbrev pub StateFits : Module → State → Type 0
StateFits m (between s l) = StoreFits m s × SomeLeft l.entries × LeftTyped m l
StateFits m (begins x s l) = StoreFits m s × StartTyped m x × LeftTyped m l
StateFits m (runs task c l) = (outs : List ValType) × Fits m outs c × LeftTyped m l
StateFits m (halts s) = Unit {0}

-- ---- under the protocol

-- an entry that the host has called is typed
abbrev pub TaskTyped : Module → Task → Type 0
TaskTyped p the_start = Unit {0}
TaskTyped p (an_entry e) = EntryTyped p e

-- what is said is a value of the import's result, or a trap
abbrev pub SaidTyped : Module → ℕ → Said → Type 0
SaidTyped p import (S.Value v) = types_of (option_to_list v) ≡ results_of p import
SaidTyped p import S.Trap = Unit {0}

-- the entry, and what waits in a phase of a pause, at an import that is there
abbrev pub PhaseTyped : Module → Phase → Type 0
PhaseTyped p (is_running task) = TaskTyped p task
PhaseTyped p (unwinds e i a) = EntryTyped p e × SaidTyped p i a.said × (i < func_imports p)
PhaseTyped p (rewinds e i a at_pause) = EntryTyped p e × SaidTyped p i a.said × (i < func_imports p)

-- what waits for the results of an import
abbrev pub Waits : Module → ℕ → Configuration → Type 0
Waits p import c = (outs : List ValType) × CallersFit p outs (results_of p import) (c.here ∷ c.under)

-- what the host does next belongs to the phase
abbrev pub ThenFits : Module → Phase → Then → Type 0
ThenFits p (unwinds e i a) (give_zero c) = Waits p i c
ThenFits p (unwinds e i a) test_unwound = Unit {0}
ThenFits p (unwinds e i a) pause_there = Unit {0}
ThenFits p (rewinds e i a at_pause) call_again = Unit {0}
ThenFits p (rewinds e i a at_pause) (test_rewound c) = Waits p i c
ThenFits p (rewinds e i a at_pause) (give_answer c) = Waits p i c
ThenFits p _ _ = ⊥

-- where a run under the protocol stands
abbrev pub HeldFits : Module → Held → Type 0
HeldFits p (free s l) = StoreFits p s × SomeLeft l.entries × LeftTyped p l
HeldFits p (starting f s l) = StoreFits p s × StartTyped p f × LeftTyped p l
HeldFits p (busy ph c l) = (outs : List ValType) × Fits p outs c × PhaseTyped p ph × LeftTyped p l
HeldFits p (calling ph s f args th l) = StoreFits p s × Callable p f (types_of args) × PhaseTyped p ph × ThenFits p ph th × LeftTyped p l
HeldFits p (aside ph c th l) = (outs : List ValType) × Fits p outs c × PhaseTyped p ph × ThenFits p ph th × LeftTyped p l
HeldFits p (entering ph e s l) = StoreFits p s × EntryTyped p e × PhaseTyped p ph × LeftTyped p l
HeldFits p (over s) = Unit {0}

-- the five exports that the host calls are there, and take what it gives them
pub record ExportsTyped (p : Module) : Type 0 where
  pub start_unwind : Callable p (exports_of p).start_unwind (I32 ∷ [])
  pub stop_unwind : Callable p (exports_of p).stop_unwind []
  pub start_rewind : Callable p (exports_of p).start_rewind (I32 ∷ [])
  pub stop_rewind : Callable p (exports_of p).stop_rewind []
  pub get_state : Callable p (exports_of p).get_state []
