-- What stands in a module under each index: imports first, then what is defined (standard, section 2.5.1).
use Rattle.std.specs.Prelude.{ℕ, ◌-◌, ◌++◌, List, [], map, length, replicate, Option, Some, None, slice_get, nat_lt, if◌then◌else◌}
use Rattle.std.specs.List.{filter_map, flat_map}
use Rattle.wa_types.specs.declared.values.ValType.{ValType}
use Rattle.wa_types.specs.declared.syntax.Run.{Run}
use Rattle.wa_types.specs.declared.syntax.Limits.{Limits}
use Rattle.wa_types.specs.declared.syntax.Import.{Import}
use Rattle.wa_types.specs.declared.syntax.ImportKind.{ImportKind}
use Rattle.wa_types.specs.declared.syntax.ImportKind.TheVariants.{Func as a_func_import, Table as a_table_import, Memory as a_memory_import, Global as a_global_import}
use Rattle.wa_types.specs.Syntax.{FuncType, Func, GlobalDef, Module}
use Rattle.wa_types.specs.Typing.{GlobalType, Around}

-- What an import of each kind declares (2.5.11): the index of the type of a function,
abbrev pub imported_func : ImportKind → Option ℕ
imported_func (a_func_import sort) = Some sort
imported_func _ = None

-- the limits of a table,
abbrev pub imported_table : ImportKind → Option Limits
imported_table (a_table_import l) = Some l
imported_table _ = None

-- the limits of a memory,
abbrev pub imported_memory : ImportKind → Option Limits
imported_memory (a_memory_import l) = Some l
imported_memory _ = None

-- and the type of a global.
abbrev pub imported_global : ImportKind → Option GlobalType
imported_global (a_global_import t mutable) = Some (record { ty = t; mutable = mutable })
imported_global _ = None

-- the imports of one kind, in order (2.5.11)
abbrev pub imported : {X : Type 0} → (ImportKind → Option X) → Module → List X
imported of_kind m = filter_map (λ (i : Import). of_kind i.kind) m.imports

-- the indices of the types of all functions (2.5.1)
abbrev pub func_sorts : Module → List ℕ
func_sorts m = imported imported_func m ++ map (λ (f : Func). f.sort) m.funcs

-- the number of imported functions: the index of the first defined one (2.5.1)
abbrev pub func_imports : Module → ℕ
func_imports m = length (imported imported_func m)

-- the limits of all tables (2.5.1)
abbrev pub all_tables : Module → List Limits
all_tables m = imported imported_table m ++ m.tables

-- the limits of all memories (2.5.1)
abbrev pub all_memories : Module → List Limits
all_memories m = imported imported_memory m ++ m.memories

-- the type of a defined global (2.5.6)
abbrev pub global_type : GlobalDef → GlobalType
global_type g = record { ty = g.ty; mutable = g.mutable }

-- the types of all globals (2.5.1)
abbrev pub all_globals : Module → List GlobalType
all_globals m = imported imported_global m ++ map global_type m.globals

-- the type [] -> []
abbrev pub empty_type : FuncType
empty_type = record { params = []; results = [] }

-- a type that is told, else that one
abbrev pub or_empty : Option FuncType → FuncType
or_empty None = empty_type
or_empty (Some t) = t

-- the type of this index (2.5.2); one that isn't there counts no parameters
abbrev pub type_at : Module → ℕ → FuncType
type_at m sort = or_empty (slice_get m.types sort)

-- the types of all functions (2.5.1)
abbrev pub func_types : Module → List FuncType
func_types m = map (type_at m) (func_sorts m)

-- the type of the function of this index (2.5.3); one that isn't there counts no parameters
abbrev pub func_type_at : Module → ℕ → FuncType
func_type_at m x = or_empty (slice_get (func_types m) x)

-- the types of declared locals, one for each (2.5.3)
abbrev pub declared_locals : List Run → List ValType
declared_locals runs = flat_map (λ (r : Run). replicate r.count r.ty) runs

-- the types of a function's parameters and declared locals (2.5.3)
abbrev pub locals_of : Module → Func → List ValType
locals_of m f = (type_at m f.sort).params ++ declared_locals f.locals

-- what stands around the body of a defined function (3.1.1, 3.4.1, 3.4.10)
abbrev pub around : Module → Func → Around
around m f = record {
  types = m.types;
  funcs = func_types m;
  table = nat_lt 0 (length (all_tables m));
  memory = nat_lt 0 (length (all_memories m));
  globals = all_globals m;
  locals = locals_of m f;
  result = slice_get (type_at m f.sort).results 0;
}

-- the defined function of this index (2.5.3)
abbrev pub defined_at : Module → ℕ → Option Func
defined_at m x = if nat_lt x (func_imports m) then None else slice_get m.funcs (x - func_imports m)
