-- Valid modules (standard, sections 3.2 and 3.4), by rules that have numbers (`Rules`). `Typing` names the rule that an
-- instruction breaks. The rules below are asked outside the bodies. Those on unknown indices look there at no index in an
-- initialiser or an offset but that of a `global.get` that is its only instruction.
use Rattle.std.specs.Prelude.{◌≡◌, ℕ, ◌^◌, ◌++◌, List, [], ◌∷◌, map, length, Option, Some, None, Bool, true, false, not, ◌&&◌, slice_get, nat_lt, nat_le, ◌==◌, if◌then◌else◌}
use Rattle.std.specs.List.{filter_map, flat_map, list_all, list_any}
use Rattle.std.specs.Option.{option_to_list}
use Rattle.wa_types.specs.declared.values.ValType.{ValType}
use Rattle.wa_types.specs.declared.values.ValType.TheVariants.{I32}
use Rattle.wa_types.specs.declared.rules.Rule.{Rule}
use Rattle.wa_types.specs.declared.rules.Rule.TheVariants.{UnknownType, UnknownFunc, UnknownTable, UnknownMemory, UnknownGlobal, BadLimits, SecondInstance, NotConstant, DuplicateExport}
use Rattle.wa_types.specs.declared.rules.Rule.TheVariants.{StartType, SecondResult}
use Rattle.wa_types.specs.Rules.{number}
use Rattle.wa_types.specs.declared.syntax.Limits.{Limits}
use Rattle.wa_types.specs.declared.syntax.Export.{Export}
use Rattle.wa_types.specs.declared.syntax.Space.{Space}
use Rattle.wa_types.specs.declared.syntax.Space.TheVariants.{Func as a_func, Table as a_table, Memory as a_memory, Global as a_global}
use Rattle.wa_types.specs.Encoding.{same_type}
use Rattle.wa_types.specs.Syntax.{const, global_get, basic, Code, done, plain, FuncType, Func, GlobalDef, Elem, Segment, Module}
use Rattle.wa_types.specs.Typing.{GlobalType, type_of, Typed}
use Rattle.wa_types.specs.Modules.{imported_global, imported, func_sorts, func_types, all_tables, all_memories, all_globals, around}

-- each of the indices is below this number of things
abbrev pub all_below : ℕ → List ℕ → Bool
all_below n xs = list_all (λ x. nat_lt x n) xs

-- two index spaces are one (2.5.1)
abbrev pub same_space : Space → Space → Bool
same_space a_func a_func = true
same_space a_table a_table = true
same_space a_memory a_memory = true
same_space a_global a_global = true
same_space _ _ = false

-- the indices in one space that are exported (2.5.10)
abbrev pub exported : Space → Module → List ℕ
exported space m = filter_map (λ (e : Export). if same_space e.space space then Some e.index else None) m.exports

-- the index of a `global.get` that is the only instruction
abbrev pub got_global : Code → List ℕ
got_global (plain (basic (global_get x)) done) = x ∷ []
got_global _ = []

-- The types of imported and defined functions are there (3.2.6, 3.4.1, 3.4.9).
abbrev pub types_there : Module → Bool
types_there m = all_below (length m.types) (func_sorts m)

-- The functions that element segments, exports and the start name are there (3.4.5, 3.4.7, 3.4.8).
abbrev pub funcs_there : Module → Bool
funcs_there m = all_below (length (func_sorts m)) (exported a_func m ++ option_to_list m.start ++ flat_map (λ (e : Elem). e.funcs) m.elems)

-- The tables that element segments and exports name are there (3.4.5, 3.4.8).
abbrev pub tables_there : Module → Bool
tables_there m = all_below (length (all_tables m)) (exported a_table m ++ map (λ (e : Elem). e.table) m.elems)

-- The memories that data segments and exports name are there (3.4.6, 3.4.8).
abbrev pub memories_there : Module → Bool
memories_there m = all_below (length (all_memories m)) (exported a_memory m ++ map (λ (s : Segment). s.memory) m.segments)

-- the initialisers and offsets of the module (2.5.6 to 2.5.8)
abbrev pub expressions : Module → List Code
expressions m = map (λ (g : GlobalDef). g.init) m.globals ++ map (λ (e : Elem). e.offset) m.elems ++ map (λ (s : Segment). s.offset) m.segments

-- The globals that exports, and initialisers and offsets of one instruction, name are there (3.4.8, 3.3.3.4).
abbrev pub globals_there : Module → Bool
globals_there m = all_below (length (all_globals m)) (exported a_global m ++ flat_map got_global (expressions m))

-- a maximum within a range, and not below the minimum (3.2.1)
abbrev pub max_fits : ℕ → ℕ → Option ℕ → Bool
max_fits range low None = true
max_fits range low (Some high) = nat_le high range && nat_le low high

-- limits within a range (3.2.1)
abbrev pub limits_fit : ℕ → Limits → Bool
limits_fit range l = nat_le l.min range && max_fits range l.min l.max

-- Tables are within 2^32 entries, memories within 65,536 pages, and no maximum is below its minimum (3.2.3, 3.2.4).
abbrev pub all_limits_fit : Module → Bool
all_limits_fit m = list_all (limits_fit (2 ^ 32)) (all_tables m) && list_all (limits_fit 65536) (all_memories m)

-- There is one table and one memory at most (3.4.10).
abbrev pub one_each : Module → Bool
one_each m = nat_le (length (all_tables m)) 1 && nat_le (length (all_memories m)) 1

-- a constant global of this type (3.3.7.2)
abbrev pub constant_of : Option GlobalType → ValType → Bool
constant_of None t = false
constant_of (Some g) t = not g.mutable && same_type g.ty t

-- the code is one constant of this type, or one `global.get` of a constant global of this type (3.3.7.2)
abbrev pub is_constant : List GlobalType → ValType → Code → Bool
is_constant globals t (plain (basic (const v)) done) = same_type (type_of v) t
is_constant globals t (plain (basic (global_get x)) done) = constant_of (slice_get globals x) t
is_constant globals t _ = false

-- Initialisers are constant, and name imported globals alone; offsets are constant, of type i32 (3.4.4 to 3.4.6, 3.4.10).
abbrev pub all_constant : Module → Bool
all_constant m =
    list_all (λ (g : GlobalDef). is_constant (imported imported_global m) g.ty g.init) m.globals
    && list_all (λ (e : Elem). is_constant (all_globals m) I32 e.offset) m.elems
    && list_all (λ (s : Segment). is_constant (all_globals m) I32 s.offset) m.segments

-- two names are one (2.2.4)
abbrev pub same_name : List ℕ → List ℕ → Bool
same_name [] [] = true
same_name (x ∷ xs) (y ∷ ys) = x == y && same_name xs ys
same_name _ _ = false

-- no two of these names are one (3.4.10)
abbrev pub all_differ : List (List ℕ) → Bool
all_differ [] = true
all_differ (x ∷ xs) = not (list_any (same_name x) xs) && all_differ xs

-- No two exports have one name (3.4.10).
abbrev pub names_differ : Module → Bool
names_differ m = all_differ (map (λ (e : Export). e.name) m.exports)

-- the type [] -> [] (3.4.7)
abbrev pub is_empty_type : Option FuncType → Bool
is_empty_type None = false
is_empty_type (Some t) = length t.params == 0 && length t.results == 0

-- the start function, where there is one, is of that type (3.4.7)
abbrev pub start_fits : Option ℕ → List FuncType → Bool
start_fits None types = true
start_fits (Some x) types = is_empty_type (slice_get types x)

-- The start function is of type [] -> [] (3.4.7).
abbrev pub start_lawful : Module → Bool
start_lawful m = start_fits m.start (func_types m)

-- A type has one result at most (3.2.2).
abbrev pub one_result : Module → Bool
one_result m = list_all (λ (t : FuncType). nat_le (length t.results) 1) m.types

-- A valid module (3.4.10).
pub record Valid (m : Module) : Type 0 where
  pub types : one_result m ≡ true
  pub sorts : types_there m ≡ true
  pub bodies : (i : ℕ) → (f : Func) → slice_get m.funcs i ≡ Some f → Typed (around m f) f.body
  pub limits : all_limits_fit m ≡ true
  pub single : one_each m ≡ true
  pub constants : all_constant m ≡ true
  pub globals : globals_there m ≡ true
  pub tables : tables_there m ≡ true
  pub memories : memories_there m ≡ true
  pub funcs : funcs_there m ≡ true
  pub start : start_lawful m ≡ true
  pub names : names_differ m ≡ true

-- a rule's number where the rule fails, in front of others
abbrev pub unless : Bool → Rule → List ℕ → List ℕ
unless true rule more = more
unless false rule more = number rule ∷ more

-- The numbers of the rules that the module breaks outside its bodies, rising.
abbrev pub broken_outside : Module → List ℕ
broken_outside m =
    unless (types_there m) UnknownType
    (unless (funcs_there m) UnknownFunc
    (unless (tables_there m) UnknownTable
    (unless (memories_there m) UnknownMemory
    (unless (globals_there m) UnknownGlobal
    (unless (all_limits_fit m) BadLimits
    (unless (one_each m) SecondInstance
    (unless (all_constant m) NotConstant
    (unless (names_differ m) DuplicateExport
    (unless (start_lawful m) StartType
    (unless (one_result m) SecondResult []))))))))))
