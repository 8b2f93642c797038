-- The bytes that a module is written as: every number in its shortest spelling, known sections in rising id,
-- sections with no entries left out (standard, section 5).
use Rattle.std.specs.Prelude.{ℕ, ◌+◌, suc, List, [], ◌∷◌, ◌++◌, length, filter, min, Option, Some, None, unwrap_or, Bool, true, false, if◌then◌else◌}
use Rattle.std.specs.List.{flat_map}
use Rattle.std.specs.Prelude.{◌==◌}
use Rattle.wa_types.specs.declared.values.ValType.{ValType}
use Rattle.wa_types.specs.declared.values.ValType.TheVariants.{I32, I64}
use Rattle.wa_types.specs.declared.syntax.Run.{Run}
use Rattle.wa_types.specs.declared.syntax.Limits.{Limits}
use Rattle.wa_types.specs.declared.syntax.ImportKind.{ImportKind}
use Rattle.wa_types.specs.declared.syntax.ImportKind.TheVariants.{Func as a_func_import, Table as a_table_import, Memory as a_memory_import, Global as a_global_import}
use Rattle.wa_types.specs.declared.syntax.Import.{Import}
use Rattle.wa_types.specs.declared.syntax.Space.{Space}
use Rattle.wa_types.specs.declared.syntax.Space.TheVariants.{Func as a_func, Table as a_table, Memory as a_memory, Global as a_global}
use Rattle.wa_types.specs.declared.syntax.Export.{Export}
use Rattle.leb_numbers.specs.Leb.{shortest, shortest_signed}
use Rattle.wa_types.specs.Syntax.{Plain, Shape, a_block, a_loop, Code, done, plain, nest, branch, FuncType, Func, GlobalDef, Elem, Segment, Custom, Module}
use Rattle.wa_types.specs.Binary.{Immediates, nothing, zero_byte, index, index_and_zero, access, labels, constant, float, bulk}
use Rattle.wa_types.specs.Opcodes.{plain_opcode, plain_immediates, zeros_of}

-- a list of items, with their number (5.1.3)
abbrev pub vector : {X : Type 0} → (X → List ℕ) → List X → List ℕ
vector item xs = shortest (length xs) ++ flat_map item xs

-- bytes behind their number, as a name has them too (5.2.4, 5.5.2)
abbrev pub sized : List ℕ → List ℕ
sized bytes = shortest (length bytes) ++ bytes

-- a value type (5.3.1)
abbrev pub type_byte : ValType → ℕ
type_byte I32 = 0x7F
type_byte I64 = 0x7E

-- the result of a block (5.3.2)
abbrev pub block_type_byte : Option ValType → ℕ
block_type_byte None = 0x40
block_type_byte (Some t) = type_byte t

-- a function type (5.3.3)
abbrev pub func_type_bytes : FuncType → List ℕ
func_type_bytes t = 0x60 ∷ (vector (λ p. type_byte p ∷ []) t.params ++ vector (λ r. type_byte r ∷ []) t.results)

-- limits by whether they have a maximum (5.3.4)
abbrev pub max_bytes : ℕ → Option ℕ → List ℕ
max_bytes low None = 0x00 ∷ shortest low
max_bytes low (Some high) = 0x01 ∷ (shortest low ++ shortest high)

-- limits, as which a memory type is written (5.3.4, 5.3.5)
abbrev pub limits_bytes : Limits → List ℕ
limits_bytes l = max_bytes l.min l.max

-- the type of a table (5.3.6)
abbrev pub table_bytes : Limits → List ℕ
table_bytes l = 0x70 ∷ limits_bytes l

-- whether a global is mutable (5.3.7)
abbrev pub mutable_byte : Bool → ℕ
mutable_byte false = 0x00
mutable_byte true = 0x01

-- the type of a global (5.3.7)
abbrev pub global_type_bytes : ValType → Bool → List ℕ
global_type_bytes t mutable = type_byte t ∷ mutable_byte mutable ∷ []

-- what follows an opcode (5.4)
abbrev pub immediate_bytes : Immediates → List ℕ
immediate_bytes nothing = []
immediate_bytes zero_byte = 0x00 ∷ []
immediate_bytes (index x) = shortest x
immediate_bytes (index_and_zero x) = shortest x ++ 0x00 ∷ []
immediate_bytes (access align offset) = shortest align ++ shortest offset
immediate_bytes (labels targets last) = vector shortest targets ++ shortest last
immediate_bytes (constant bits n) = shortest_signed bits n
immediate_bytes (float bytes) = bytes
immediate_bytes (bulk n) = shortest n ++ unwrap_or (zeros_of n) []

-- an instruction that holds no other (5.4.1 to 5.4.5)
abbrev pub plain_bytes : Plain → List ℕ
plain_bytes p = plain_opcode p ∷ immediate_bytes (plain_immediates p)

-- the opcode of a block or a loop (5.4.1)
abbrev pub shape_byte : Shape → ℕ
shape_byte a_block = 0x02
shape_byte a_loop = 0x03

-- an else arm with these bytes, left out where it is empty (5.4.1)
abbrev pub else_bytes : Code → List ℕ → List ℕ
else_bytes done bytes = []
else_bytes _ bytes = 0x05 ∷ bytes

-- a sequence of instructions, without its end (5.4.1)
unfoldable pub code_bytes : Code → List ℕ
code_bytes done = []
code_bytes (plain p rest) = plain_bytes p ++ code_bytes rest
code_bytes (nest s r body rest) = shape_byte s ∷ block_type_byte r ∷ (code_bytes body ++ 0x0B ∷ code_bytes rest)
code_bytes (branch r a b rest) = 0x04 ∷ block_type_byte r ∷ (code_bytes a ++ else_bytes b (code_bytes b) ++ 0x0B ∷ code_bytes rest)

-- an expression (5.4.6)
abbrev pub expression_bytes : Code → List ℕ
expression_bytes c = code_bytes c ++ 0x0B ∷ []

-- two value types are one (2.3.1)
abbrev pub same_type : ValType → ValType → Bool
same_type I32 I32 = true
same_type I64 I64 = true
same_type _ _ = false

-- a run in front of merged runs
abbrev pub run_onto : Run → List Run → List Run
run_onto r [] = r ∷ []
run_onto r (s ∷ rest) = if same_type r.ty s.ty then (record { count = r.count + s.count; ty = r.ty }) ∷ rest else r ∷ s ∷ rest

-- the runs with adjacent ones of a type merged, and empty ones left out
abbrev pub merged : List Run → List Run
merged [] = []
merged (r ∷ rest) = if r.count == 0 then merged rest else run_onto r (merged rest)

-- a run of locals (5.5.13)
abbrev pub run_bytes : Run → List ℕ
run_bytes r = shortest r.count ++ type_byte r.ty ∷ []

-- what a body's size counts: its locals and its expression (5.5.13)
abbrev pub body_bytes : Func → List ℕ
body_bytes f = vector run_bytes (merged f.locals) ++ expression_bytes f.body

-- what is imported (5.5.5)
abbrev pub import_kind_bytes : ImportKind → List ℕ
import_kind_bytes (a_func_import sort) = 0x00 ∷ shortest sort
import_kind_bytes (a_table_import l) = 0x01 ∷ table_bytes l
import_kind_bytes (a_memory_import l) = 0x02 ∷ limits_bytes l
import_kind_bytes (a_global_import t mutable) = 0x03 ∷ global_type_bytes t mutable

-- an import (5.5.5)
abbrev pub import_bytes : Import → List ℕ
import_bytes i = sized i.module ++ sized i.base ++ import_kind_bytes i.kind

-- a defined global (5.5.9)
abbrev pub global_bytes : GlobalDef → List ℕ
global_bytes g = global_type_bytes g.ty g.mutable ++ expression_bytes g.init

-- the index space of an export (5.5.10)
abbrev pub space_byte : Space → ℕ
space_byte a_func = 0x00
space_byte a_table = 0x01
space_byte a_memory = 0x02
space_byte a_global = 0x03

-- an export (5.5.10)
abbrev pub export_bytes : Export → List ℕ
export_bytes e = sized e.name ++ space_byte e.space ∷ shortest e.index

-- an element segment (5.5.12)
abbrev pub elem_bytes : Elem → List ℕ
elem_bytes e = shortest e.table ++ expression_bytes e.offset ++ vector shortest e.funcs

-- a data segment (5.5.14)
abbrev pub segment_bytes : Segment → List ℕ
segment_bytes s = shortest s.memory ++ expression_bytes s.offset ++ sized s.bytes

-- a section of entries, left out where there is none (5.5.2)
abbrev pub section : {X : Type 0} → ℕ → (X → List ℕ) → List X → List ℕ
section id entry [] = []
section id entry (x ∷ xs) = id ∷ sized (vector entry (x ∷ xs))

-- the start section (5.5.11)
abbrev pub start_section : Option ℕ → List ℕ
start_section None = []
start_section (Some x) = 0x08 ∷ sized (shortest x)

-- a custom section (5.5.3)
abbrev pub custom_bytes : Custom → List ℕ
custom_bytes c = 0x00 ∷ sized (sized c.name ++ c.bytes)

-- the custom sections whose place is behind the sections of ids up to this one (5.5.3); 11 is the last
abbrev pub customs_behind : ℕ → List Custom → List ℕ
customs_behind id cs = flat_map custom_bytes (filter (λ c. min c.after 11 == id) cs)

-- the magic number and the version (5.5.15)
abbrev pub preamble : List ℕ
preamble = 0x00 ∷ 0x61 ∷ 0x73 ∷ 0x6D ∷ 0x01 ∷ 0x00 ∷ 0x00 ∷ 0x00 ∷ []

-- The known sections by id, each without the custom sections behind it (5.5.4 to 5.5.14).
abbrev pub sections : Module → List (List ℕ)
sections m =
    section 1 func_type_bytes m.types
    ∷ section 2 import_bytes m.imports
    ∷ section 3 (λ (f : Func). shortest f.sort) m.funcs
    ∷ section 4 table_bytes m.tables
    ∷ section 5 limits_bytes m.memories
    ∷ section 6 global_bytes m.globals
    ∷ section 7 export_bytes m.exports
    ∷ start_section m.start
    ∷ section 9 elem_bytes m.elems
    ∷ section 10 (λ f. sized (body_bytes f)) m.funcs
    ∷ section 11 segment_bytes m.segments
    ∷ []

-- sections of these ids on, each followed by the custom sections behind it
abbrev pub with_customs : ℕ → List (List ℕ) → List Custom → List ℕ
with_customs id [] cs = []
with_customs id (s ∷ rest) cs = s ++ customs_behind id cs ++ with_customs (suc id) rest cs

-- The one spelling that a module is written in (5.5.15).
unfoldable pub Enc : Module → List ℕ
Enc m = preamble ++ customs_behind 0 m.customs ++ with_customs 1 (sections m) m.customs
