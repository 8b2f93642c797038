-- Which module the sections of a file are, where they hold no float (standard, sections 2 and 5).
use Rattle.std.specs.Prelude.{◌≡◌, ℕ, List, [], ◌∷◌, map, flat_map, IsTrue, option_to_list}
use Rattle.std.specs.List.{AllZip}
use Rattle.wa_types.specs.declared.values.ValType.{ValType}
use Rattle.wa_types.specs.declared.syntax.Run.{Run}
use Rattle.wa_types.specs.declared.syntax.ImportKind.{ImportKind}
use Rattle.wa_types.specs.declared.syntax.ImportKind.TheVariants.{Func as a_func_import, Table as a_table_import, Memory as a_memory_import, Global as a_global_import}
use Rattle.wa_types.specs.declared.syntax.Import.{Import}
use Rattle.wa_types.specs.declared.syntax.Limits.{Limits}
use Rattle.wa_types.specs.declared.syntax.Export.{Export}
use Rattle.wa_types.specs.Encoding.{type_byte, block_type_byte, shape_byte}
use Rattle.wa_types.specs.Syntax.{load, store, Plain, basic, Code, done, plain, nest, branch, FuncType, Func, GlobalDef, Elem, Segment, Custom, Module}
use Rattle.wa_types.specs.Binary.{Placed, Immediates, RawCode, ended, otherwise, instr, nested, branched, RawType, RawKind}
use Rattle.wa_types.specs.Binary.{raw_func, raw_table, raw_memory, raw_global, RawImport, RawGlobal, RawElem, RawRun, RawBody, RawSegment, Section, custom, types, imports, tables, memories}
use Rattle.wa_types.specs.Binary.{globals, exports, start, elements, segments, section_id}
use Rattle.wa_types.specs.Opcodes.{plain_opcode, plain_immediates, is_load_op, is_store_op}
use Rattle.wa_types.specs.Spells.{Spells, sorts_in, bodies_in}

-- a load or a store has an opcode of its own kind, on integers (5.4.4)
abbrev pub HasKind : Plain → Type 0
HasKind (basic (load op align offset)) = IsTrue (is_load_op op)
HasKind (basic (store op align offset)) = IsTrue (is_store_op op)
HasKind _ = Unit {0}

-- the instruction of this opcode, followed by this (5.4)
pub record IsPlain (op : Placed) (immediates : Immediates) (p : Plain) : Type 0 where
  pub opcode : op.byte ≡ plain_opcode p
  pub follows : immediates ≡ plain_immediates p
  pub kind : HasKind p

-- the code that a sequence is up to its end, and, where that is an else, the code of the arm behind it (5.4.1)
abbrev pub IsCode : RawCode → (code else_arm : Code) → Type 0
IsCode (ended k) done else_arm = else_arm ≡ done
IsCode (otherwise k arm) done else_arm = IsCode arm else_arm done
IsCode (instr op immediates rest) (plain p more) else_arm = IsPlain op immediates p × IsCode rest more else_arm
IsCode (nested op result body rest) (nest s r inner more) else_arm = (op.byte ≡ shape_byte s) × (result.byte ≡ block_type_byte r) × IsCode body inner done × IsCode rest more else_arm
IsCode (branched op result arms rest) (branch r a b more) else_arm = (result.byte ≡ block_type_byte r) × IsCode arms a b × IsCode rest more else_arm
IsCode _ _ else_arm = ⊥

-- the value type of a byte (5.3.1)
abbrev pub IsValueType : Placed → ValType → Type 0
IsValueType raw t = raw.byte ≡ type_byte t

-- the function type that is spelled (5.3.3)
pub record IsFuncType (raw : RawType) (t : FuncType) : Type 0 where
  pub params : AllZip IsValueType raw.params t.params
  pub results : AllZip IsValueType raw.results t.results

-- what is imported (5.5.5)
abbrev pub IsKind : RawKind → ImportKind → Type 0
IsKind (raw_func sort) k = k ≡ a_func_import sort
IsKind (raw_table l) k = k ≡ a_table_import l
IsKind (raw_memory l) k = k ≡ a_memory_import l
IsKind (raw_global raw mutable) k = (t : ValType) × (k ≡ a_global_import t mutable) × IsValueType raw t

-- an import (5.5.5)
pub record IsImport (raw : RawImport) (i : Import) : Type 0 where
  pub module_name : i.module ≡ raw.module_name
  pub base : i.base ≡ raw.base
  pub kind : IsKind raw.kind i.kind

-- a defined global, with its expression (5.4.6, 5.5.9)
pub record IsGlobal (raw : RawGlobal) (g : GlobalDef) : Type 0 where
  pub ty : IsValueType raw.ty g.ty
  pub mutable : g.mutable ≡ raw.mutable
  pub init : IsCode raw.init g.init done

-- an element segment (5.5.12)
pub record IsElem (raw : RawElem) (e : Elem) : Type 0 where
  pub table : e.table ≡ raw.table
  pub offset : IsCode raw.offset e.offset done
  pub funcs : e.funcs ≡ raw.funcs

-- so many locals of one type (5.5.13)
pub record IsRun (raw : RawRun) (r : Run) : Type 0 where
  pub count : r.count ≡ raw.count
  pub ty : IsValueType raw.ty r.ty

-- a function, by its body (5.5.13)
pub record IsBody (raw : RawBody) (f : Func) : Type 0 where
  pub locals : AllZip IsRun raw.locals f.locals
  pub body : IsCode raw.code f.body done

-- a data segment (5.5.14)
pub record IsSegment (raw : RawSegment) (s : Segment) : Type 0 where
  pub memory : s.memory ≡ raw.memory
  pub offset : IsCode raw.offset s.offset done
  pub bytes : s.bytes ≡ raw.bytes

-- the types of a section, where it is of that kind (5.5.4)
abbrev pub types_in : Section → List RawType
types_in (types ts) = ts
types_in _ = []

-- the imports of a section (5.5.5)
abbrev pub imports_in : Section → List RawImport
imports_in (imports is) = is
imports_in _ = []

-- the tables (5.5.7)
abbrev pub tables_in : Section → List Limits
tables_in (tables ts) = ts
tables_in _ = []

-- the memories (5.5.8)
abbrev pub memories_in : Section → List Limits
memories_in (memories ms) = ms
memories_in _ = []

-- the globals (5.5.9)
abbrev pub globals_in : Section → List RawGlobal
globals_in (globals gs) = gs
globals_in _ = []

-- the exports (5.5.10)
abbrev pub exports_in : Section → List Export
exports_in (exports es) = es
exports_in _ = []

-- the start function (5.5.11)
abbrev pub starts_in : Section → List ℕ
starts_in (start x) = x ∷ []
starts_in _ = []

-- the element segments (5.5.12)
abbrev pub elements_in : Section → List RawElem
elements_in (elements es) = es
elements_in _ = []

-- the data segments (5.5.14)
abbrev pub segments_in : Section → List RawSegment
segments_in (segments ss) = ss
segments_in _ = []

-- the custom sections, each with the id of the last known section before it (5.5.3)
abbrev pub customs_of : (last : ℕ) → List Section → List Custom
customs_of last [] = []
customs_of last (custom name bytes ∷ ss) = record { after = last; name = name; bytes = bytes } ∷ customs_of last ss
customs_of last (s ∷ ss) = customs_of (section_id s) ss

-- The module that the sections are (5.5.15). There is none where they hold a float.
pub record IsModule (ss : List Section) (m : Module) : Type 0 where
  pub types : AllZip IsFuncType (flat_map types_in ss) m.types
  pub imports : AllZip IsImport (flat_map imports_in ss) m.imports
  pub sorts : map (λ (f : Func). f.sort) m.funcs ≡ flat_map sorts_in ss
  pub funcs : AllZip IsBody (flat_map bodies_in ss) m.funcs
  pub tables : m.tables ≡ flat_map tables_in ss
  pub memories : m.memories ≡ flat_map memories_in ss
  pub globals : AllZip IsGlobal (flat_map globals_in ss) m.globals
  pub exports : m.exports ≡ flat_map exports_in ss
  pub start : option_to_list m.start ≡ flat_map starts_in ss
  pub elems : AllZip IsElem (flat_map elements_in ss) m.elems
  pub segments : AllZip IsSegment (flat_map segments_in ss) m.segments
  pub customs : m.customs ≡ customs_of 0 ss

-- The bytes spell this module (5.5.15).
pub record SpellsModule (bytes : List ℕ) (m : Module) : Type 0 where
  pub sections : List Section
  pub spells : Spells bytes sections
  pub is_module : IsModule sections m
