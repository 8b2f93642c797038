-- The module in which some functions are flat, and what validity of the original gives.
use Rattle.std.specs.Prelude.{◌≡◌, ◌≤◌, ◌<◌, ℕ, suc, ◌+◌, ◌*◌, ◌++◌, List, [], ◌∷◌, length, map, drop, Option, Some, None, Bool, true, false, reverse, slice_get}
use Rattle.wa_types.specs.declared.values.ValType.{ValType}
use Rattle.wa_types.specs.Syntax.{Code, Func, Module}
use Rattle.wa_types.specs.Typing.{Around, Typed}
use Rattle.wa_types.specs.Pruned.{pruned}
use Rattle.wa_types.specs.Modules.{func_imports, func_sorts, type_at, func_type_at, declared_locals, defined_at, around}
use Rattle.wa_types.specs.Pausing.{is_told}
use Rattle.wa_types.specs.Frames.{Pair, SlotPairs, ResultPairs}
use Rattle.wa_types.specs.Base.{Base}
use Rattle.wa_types.specs.Runtime.{with_runtime}
use Rattle.wa_types.specs.Validity.{Valid}
use Rattle.wa_types.specs.Bounds.{code_weight}
use Rattle.wa_types.specs.Counts.{depth_of}
use Rattle.wa_types.specs.Points.{func_call_points}
use Rattle.wa_model.specs.Step.{memory_max}
use Rattle.run_theory.specs.Flat.{Stmts, FlatFunc, FlatModule, code_of, body_of, no_more, computes, copies, calls, leaps, leaps_if, leaps_by, nests, decides, halts}
use Rattle.run_theory.specs.FlatFits.{func_of_flat, with_flat}
use Rattle.run_theory.specs.FlatTyped.{StmtsTyped}
use Rattle.flat_laws.specs.Flatten.{Names, names, slots, flat, flattened}

-- the types of a function's slots and result locals, in order
abbrev pub extra_types : Module → Func → List ValType
extra_types m f = map (λ (p : Pair). p.ty) (SlotPairs m f) ++ map (λ (p : Pair). p.ty) (ResultPairs m f)

-- the function of this index, flat
abbrev pub flat_func : Module → ℕ → Func → Func
flat_func m x f = func_of_flat m (flattened m x f)

-- the flat functions of those that are told, from index x on
abbrev pub flat_told : Module → ℕ → List Bool → List Func → List FlatFunc
flat_told m x [] fs = []
flat_told m x (w ∷ which) [] = []
flat_told m x (true ∷ which) (f ∷ fs) = flattened m x f ∷ flat_told m (suc x) which fs
flat_told m x (false ∷ which) (f ∷ fs) = flat_told m (suc x) which fs

-- The flat functions of a module: of those defined functions that are told, by one answer for each function, imports first.
abbrev pub flats_of : Module → List Bool → FlatModule
flats_of m which = record { funcs = flat_told m (func_imports m) (drop (func_imports m) which) m.funcs }

-- The module in which these are flat, and every other function stays.
abbrev pub flat_module : Module → List Bool → Module
flat_module m which = with_flat m (flats_of m which)

-- the function of this index has the flat body, and its locals behind those of f
abbrev pub IsFlat : Module → ℕ → Func → Option Func → Type 0
IsFlat m x f None = ⊥
IsFlat m x f (Some g) = (g.body ≡ body_of (flattened m x f)) × (declared_locals g.locals ≡ declared_locals f.locals ++ extra_types m f)

-- it is flat where it is told, and stays where it isn't
abbrev pub IsPlaced : Bool → Module → ℕ → Func → Option Func → Type 0
IsPlaced true m x f o = IsFlat m x f o
IsPlaced false m x f o = o ≡ Some f

-- A valid module, and one that is like it, as far as its own types and functions go, but for the functions that are told,
-- which are flat. It may have more behind them.
pub record Flattened (m p : Module) (which : List Bool) : Type 0 where
  pub valid : Valid m
  pub placed : (x : ℕ) (f : Func) → defined_at m x ≡ Some f → IsPlaced (is_told (slice_get which x)) m x f (defined_at p x)
  pub none : (x : ℕ) → x < length (func_sorts m) → defined_at m x ≡ None → defined_at p x ≡ None
  pub func_type : (x : ℕ) → x < length (func_sorts m) → func_type_at p x ≡ func_type_at m x
  pub sort : (t : ℕ) → t < length m.types → type_at p t ≡ type_at m t
  pub imports : func_imports p ≡ func_imports m
  pub most : memory_max p ≡ memory_max m

-- ---- laws

-- A valid module and the one in which the told functions are flat meet all that the laws of runs ask for.
abbrev pub ValidIsFlattened : Type 0
ValidIsFlattened = (m : Module) (which : List Bool) → Valid m → Flattened m (flat_module m which) which

-- So do the original with the memory that it is compared with, and the same module with the runtime's parts behind.
abbrev pub RuntimeIsFlattened : Type 0
RuntimeIsFlattened = (m : Module) (which : List Bool) → Valid m → Flattened (Base m) (with_runtime (flat_module m which)) which

-- With that memory a function has the same flat one, and the same slots and result locals.
abbrev pub SameWithMemory : Type 0
SameWithMemory = (m : Module) (x : ℕ) (f : Func) → Valid m → defined_at m x ≡ Some f → (flattened (Base m) x f ≡ flattened m x f) × (names (Base m) f ≡ names m f)

-- The flat code is that of the pruned code.
abbrev pub FlatOfPruned : Type 0
FlatOfPruned = (n : Names) (c : Around) (ls : List (Option ValType)) (code : Code) (ops : List ValType) → flat n c ls (pruned code) ops ≡ flat n c ls code ops

-- How much a flat body weighs: its instructions, labels of `br_table` and call parameters.
abbrev pub FlatIsSmall : Type 0
FlatIsSmall = (m : Module) (x : ℕ) (f : Func) → code_weight m (body_of (flattened m x f)) ≤ 8 * code_weight m (pruned f.body) + 4

-- the stacks of the calls in a list of statements, in order
unfoldable pub stacks_in : Stmts → List (List ℕ)
stacks_in no_more = []
stacks_in (computes op args to rest) = stacks_in rest
stacks_in (copies to from rest) = stacks_in rest
stacks_in (calls op stack args to rest) = stack ∷ stacks_in rest
stacks_in (leaps l rest) = stacks_in rest
stacks_in (leaps_if condition l rest) = stacks_in rest
stacks_in (leaps_by index labels last rest) = stacks_in rest
stacks_in (nests s body rest) = stacks_in body ++ stacks_in rest
stacks_in (decides condition a b rest) = stacks_in a ++ (stacks_in b ++ stacks_in rest)
stacks_in (halts rest) = stacks_in rest

-- The stack of each call is the slots of the operands just before it, the lowest first.
abbrev pub StacksAreSlots : Type 0
StacksAreSlots = (m : Module) (x : ℕ) (f : Func) → Typed (around m f) f.body → stacks_in (flattened m x f).body ≡ map (λ ops. reverse (slots (names m f) ops)) (func_call_points m f)

-- A flat body is typed among the flat function's locals, whichever functions are flat.
abbrev pub FlatIsTyped : Type 0
FlatIsTyped = (m : Module) (which : List Bool) (x : ℕ) (f : Func) → Valid m → defined_at m x ≡ Some f → Typed (around (flat_module m which) (flat_func m x f)) (flat_func m x f).body

-- Each of its statements takes no operands to none.
abbrev pub FlatStmtsTyped : Type 0
FlatStmtsTyped =
    (m : Module) (which : List Bool) (x : ℕ) (f : Func) → Valid m → defined_at m x ≡ Some f
    → StmtsTyped (around (flat_module m which) (flat_func m x f)) (None ∷ (around m f).result ∷ []) (flattened m x f).body

-- The module is valid, whichever functions are flat.
abbrev pub ValidStays : Type 0
ValidStays = (m : Module) (which : List Bool) → Valid m → Valid (flat_module m which)

-- Flat statements nest no deeper than the pruned body.
abbrev pub FlatIsShallow : Type 0
FlatIsShallow = (m : Module) (x : ℕ) (f : Func) → depth_of (code_of (flattened m x f).body) ≤ depth_of (pruned f.body)
