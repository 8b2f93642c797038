-- What is asked of a prepared module before a program over it can run: an area, the five exports, and the functions that the
-- program enters.
use Rattle.std.specs.Prelude.{ℕ, ◌+◌, ◌*◌, ◌%◌, ◌==◌, nat_lt, nat_le, not, ◌&&◌, if◌then◌else◌, List, [], ◌∷◌, map, Option, Some, None, Bool, true, false, Result, Ok, Err, codes, position}
use Rattle.std.specs.List.{find, list_any}
use Rattle.std.specs.Option.{is_none, option_or, unwrap_or}
use Rattle.wa_types.specs.declared.values.ValType.TheVariants.{I32}
use Rattle.wa_types.specs.declared.values.Value.{Value}
use Rattle.wa_types.specs.declared.syntax.Export.{Export}
use Rattle.wa_types.specs.declared.syntax.Space.{Space}
use Rattle.wa_types.specs.declared.syntax.Space.TheVariants.{Func as a_func}
use Rattle.wa_types.specs.Syntax.{FuncType, Module}
use Rattle.wa_types.specs.Memory.{page_size}
use Rattle.wa_types.specs.Modules.{all_memories, func_imports, func_type_at}
use Rattle.wa_types.specs.Validity.{same_name}
use Rattle.wa_ops.specs.Operate.{are_of}
use Rattle.wa_model.specs.declared.answers.Area.{Area}
use Rattle.wa_model.specs.Instantiation.{least_of}
use Rattle.wa_model.specs.Step.{same_func_type}
use Rattle.std.specs.Str.{bytes_eq}

-- An entry call by the name of its export, and its arguments in order.
pub record NamedEntry : Type 0 where
  pub name : List ℕ
  pub args : List Value

-- Why a program can't run: its area is bad; one of the five exports is missing, by its number; an entry names no function, or
-- an imported one, or its arguments aren't of the function's types, by the entry's number.
pub data Fault : Type 0 where
  area_bad : Fault
  no_export : (name : ℕ) → Fault
  entry_missing entry_is_import arg_types : (entry : ℕ) → Fault

-- ---- the area

-- It begins at a multiple of 4, has 8 bytes at least, and lies inside so many pages.
abbrev pub is_area_in : (pages : ℕ) → Area → Bool
is_area_in pages area = (area.at % 4 == 0) && nat_le 8 area.len && nat_le (area.at + area.len) (pages * page_size)

-- the pages that the memory is declared to have at least
abbrev pub least_pages : Module → ℕ
least_pages p = least_of (all_memories p)

-- ---- exports

-- the index space of functions
abbrev pub is_func : Space → Bool
is_func a_func = true
is_func _ = false

-- the function that is exported, if it is one
abbrev pub func_of : Export → Option ℕ
func_of e = if is_func e.space then Some e.index else None

-- the same of an export that may not be there
abbrev pub func_in : Option Export → Option ℕ
func_in None = None
func_in (Some e) = func_of e

-- the function that is exported under a name
abbrev pub func_named : Module → List ℕ → Option ℕ
func_named p name = func_in (find (λ (e : Export). same_name e.name name) p.exports)

-- An export that a prepared module has, and its type.
pub record Needed : Type 0 where
  pub name : List ℕ
  pub ty : FuncType

-- the five exports, in their order
abbrev pub needed : List Needed
needed =
    record { name = codes "asyncify_start_unwind"; ty = record { params = I32 ∷ []; results = [] } }
    ∷ record { name = codes "asyncify_stop_unwind"; ty = record { params = []; results = [] } }
    ∷ record { name = codes "asyncify_start_rewind"; ty = record { params = I32 ∷ []; results = [] } }
    ∷ record { name = codes "asyncify_stop_rewind"; ty = record { params = []; results = [] } }
    ∷ record { name = codes "asyncify_get_state"; ty = record { params = []; results = I32 ∷ [] } }
    ∷ []

-- it is a defined function of this type
abbrev pub is_defined_as : Module → FuncType → Option ℕ → Bool
is_defined_as p ty None = false
is_defined_as p ty (Some x) = nat_le (func_imports p) x && same_func_type (func_type_at p x) ty

-- an export that is needed is there
abbrev pub is_there : Module → Needed → Bool
is_there p n = is_defined_as p n.ty (func_named p n.name)

-- ---- entries

-- a name is one of the five
abbrev pub is_five : List ℕ → Bool
is_five name = list_any (λ (n : Needed). bytes_eq name n.name) needed

-- the function that an entry calls; the five exports are no entries
abbrev pub entry_func : Module → List ℕ → Option ℕ
entry_func p name = if is_five name then None else func_named p name

-- it is one of so many imported functions
abbrev pub is_imported : (imports : ℕ) → Option ℕ → Bool
is_imported imports None = false
is_imported imports (Some x) = nat_lt x imports

-- values are arguments of a function that is there
abbrev pub are_args : Module → List Value → Option ℕ → Bool
are_args p args None = false
are_args p args (Some x) = are_of (func_type_at p x).params args

-- ---- in their order

-- a fault at a place, where there is one
abbrev pub fault_at : (ℕ → Fault) → Option ℕ → Option Fault
fault_at fault None = None
fault_at fault (Some i) = Some (fault i)

-- the place of the first test that fails
abbrev pub first_false : List Bool → Option ℕ
first_false tests = position (λ (t : Bool). not t) tests

-- the functions of entries
abbrev pub entry_funcs : Module → List NamedEntry → List (Option ℕ)
entry_funcs p entries = map (λ (e : NamedEntry). entry_func p e.name) entries

-- whether each entry has arguments of its function's types
abbrev pub have_args : Module → List NamedEntry → List Bool
have_args p entries = map (λ (e : NamedEntry). are_args p e.args (entry_func p e.name)) entries

-- The first entry whose arguments aren't of its function's types, which `tests` tells of each.
abbrev pub args_fault : (tests : List Bool) → Option Fault
args_fault tests = fault_at arg_types (first_false tests)

-- The first entry of an imported function, else that.
abbrev pub calls_fault : (imports : ℕ) → (funcs : List (Option ℕ)) → (tests : List Bool) → Option Fault
calls_fault imports funcs tests = option_or (fault_at entry_is_import (position (is_imported imports) funcs)) (args_fault tests)

-- The first entry that names no exported function, else that.
abbrev pub entries_fault : (imports : ℕ) → (funcs : List (Option ℕ)) → (tests : List Bool) → Option Fault
entries_fault imports funcs tests = option_or (fault_at entry_missing (position is_none funcs)) (calls_fault imports funcs tests)

-- The first of the five exports that isn't there, else a fault of an entry.
abbrev pub module_fault : Module → List NamedEntry → Option Fault
module_fault p entries =
    option_or (fault_at no_export (first_false (map (is_there p) needed)))
    (entries_fault (func_imports p) (entry_funcs p entries) (have_args p entries))

-- The first fault: each kind is asked of all entries before the next.
abbrev pub first_fault : Module → Area → List NamedEntry → Option Fault
first_fault p area entries = option_or (if is_area_in (least_pages p) area then None else Some area_bad) (module_fault p entries)

-- a fault, where there is one, else what was made
abbrev pub unless_fault : {A : Type 0} → Option Fault → A → Result A Fault
unless_fault None x = Ok x
unless_fault (Some f) x = Err f

-- the functions of entries, each of which has one
abbrev pub all_told : List (Option ℕ) → List ℕ
all_told funcs = map (λ (f : Option ℕ). unwrap_or f 0) funcs

-- The functions of the entries, in order, or the first fault.
abbrev pub set_up : Module → Area → List NamedEntry → Result (List ℕ) Fault
set_up p area entries = unless_fault (first_fault p area entries) (all_told (entry_funcs p entries))
