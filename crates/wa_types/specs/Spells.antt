-- Which bytes spell a file's sections (standard, section 5). A spelling says of bytes that begin at an offset
-- that they are the parts of what they spell, one behind another.
use Rattle.std.specs.Prelude.{◌≡◌, ℕ, ◌+◌, ◌<◌, List, [], ◌∷◌, ◌++◌, length, Option, Some, None, Bool, true, false, IsTrue, IsUtf8, flat_map}
use Rattle.wa_types.specs.declared.syntax.Limits.{Limits}
use Rattle.wa_types.specs.declared.syntax.Export.{Export}
use Rattle.leb_numbers.specs.Leb.{IsUnsigned, IsSigned}
use Rattle.wa_types.specs.Encoding.{space_byte, mutable_byte, preamble}
use Rattle.wa_types.specs.Binary.{Placed, Immediates, nothing, zero_byte, index, index_and_zero, access, labels, constant, float, bulk, RawCode, ended, otherwise, instr, nested, branched, RawType}
use Rattle.wa_types.specs.Binary.{RawKind, raw_func, raw_table, raw_memory, raw_global, RawImport, RawGlobal, RawElem, RawRun, RawBody, RawSegment, Section, custom, types, imports}
use Rattle.wa_types.specs.Binary.{functions, tables, memories, globals, exports, start, elements, bodies, segments, section_id}
use Rattle.wa_types.specs.Opcodes.{follows, form, zeros_of, is_value_type, is_block_type, is_nest}

infixr 30 ◌▸◌
-- one part, and another behind it
abbrev pub ◌▸◌ : (ℕ → List ℕ → Type 0) → (ℕ → List ℕ → Type 0) → ℕ → List ℕ → Type 0
◌▸◌ P Q at bytes = (a : List ℕ) × (b : List ℕ) × (bytes ≡ a ++ b) × P at a × Q (at + length a) b

-- these bytes
abbrev pub Exactly : List ℕ → ℕ → List ℕ → Type 0
Exactly these at bytes = bytes ≡ these

-- an unsigned number (5.2.2)
abbrev pub Number : ℕ → ℕ → List ℕ → Type 0
Number n at bytes = IsUnsigned 32 bytes n

-- a signed number of so many bits, as two's complement (5.2.2)
abbrev pub SignedNumber : (bits n : ℕ) → ℕ → List ℕ → Type 0
SignedNumber bits n at bytes = IsSigned bits bytes n

-- items one behind another
abbrev pub Items : {X : Type 0} → (X → ℕ → List ℕ → Type 0) → List X → ℕ → List ℕ → Type 0
Items item [] = Exactly []
Items item (x ∷ xs) = item x ▸ Items item xs

-- a vector (5.1.3)
abbrev pub Vector : {X : Type 0} → (X → ℕ → List ℕ → Type 0) → List X → ℕ → List ℕ → Type 0
Vector item xs = Number (length xs) ▸ Items item xs

-- a content of so many bytes (5.5.2)
abbrev pub Filling : ℕ → (ℕ → List ℕ → Type 0) → ℕ → List ℕ → Type 0
Filling size content at bytes = (length bytes ≡ size) × content at bytes

-- a content behind its size (5.5.2)
abbrev pub Sized : (ℕ → List ℕ → Type 0) → ℕ → List ℕ → Type 0
Sized content at bytes = (size : ℕ) × (Number size ▸ Filling size content) at bytes

-- the bytes of a name (5.2.4)
abbrev pub TextBytes : List ℕ → ℕ → List ℕ → Type 0
TextBytes name at bytes = (bytes ≡ name) × IsUtf8 name

-- a name (5.2.4)
abbrev pub Text : List ℕ → ℕ → List ℕ → Type 0
Text name = Number (length name) ▸ TextBytes name

-- a byte at its offset (5.2.1)
abbrev pub Byte : Placed → ℕ → List ℕ → Type 0
Byte b at bytes = (at ≡ b.place) × (bytes ≡ b.byte ∷ [])

-- a value type (5.3.1)
abbrev pub ValueType : Placed → ℕ → List ℕ → Type 0
ValueType t at bytes = IsTrue (is_value_type t.byte) × Byte t at bytes

-- the result of a construct (5.3.2)
abbrev pub BlockType : Placed → ℕ → List ℕ → Type 0
BlockType t at bytes = IsTrue (is_block_type t.byte) × Byte t at bytes

-- a function type (5.3.3)
abbrev pub FunctionType : RawType → ℕ → List ℕ → Type 0
FunctionType t = Exactly (0x60 ∷ []) ▸ Vector ValueType t.params ▸ Vector ValueType t.results

-- limits by whether they have a maximum (5.3.4)
abbrev pub Maximum : ℕ → Option ℕ → ℕ → List ℕ → Type 0
Maximum low None = Exactly (0x00 ∷ []) ▸ Number low
Maximum low (Some high) = Exactly (0x01 ∷ []) ▸ Number low ▸ Number high

-- limits, as which a memory type is written (5.3.4, 5.3.5)
abbrev pub LimitsOf : Limits → ℕ → List ℕ → Type 0
LimitsOf l = Maximum l.min l.max

-- a table type (5.3.6)
abbrev pub TableType : Limits → ℕ → List ℕ → Type 0
TableType l = Exactly (0x70 ∷ []) ▸ LimitsOf l

-- a global type (5.3.7)
abbrev pub GlobalType : Placed → Bool → ℕ → List ℕ → Type 0
GlobalType t mutable = ValueType t ▸ Exactly (mutable_byte mutable ∷ [])

-- what follows an opcode (5.4.1 to 5.4.5)
abbrev pub ImmediatesOf : Immediates → ℕ → List ℕ → Type 0
ImmediatesOf nothing = Exactly []
ImmediatesOf zero_byte = Exactly (0x00 ∷ [])
ImmediatesOf (index x) = Number x
ImmediatesOf (index_and_zero x) = Number x ▸ Exactly (0x00 ∷ [])
ImmediatesOf (access align offset) = Number align ▸ Number offset
ImmediatesOf (labels targets last) = Vector Number targets ▸ Number last
ImmediatesOf (constant bits n) = SignedNumber bits n
ImmediatesOf (float bytes) = Exactly bytes
ImmediatesOf (bulk n) = Number n ▸ (λ at bytes. zeros_of n ≡ Some bytes)

-- instructions up to their end; an else stands only in the first arm of an if (5.4.1, 5.4.6)
abbrev pub CodeOf : (first_arm : Bool) → RawCode → ℕ → List ℕ → Type 0
CodeOf first_arm (ended k) at bytes = (at ≡ k) × (bytes ≡ 0x0B ∷ [])
CodeOf first_arm (otherwise k arm) at bytes = (first_arm ≡ true) × (Byte (record { place = k; byte = 0x05 }) ▸ CodeOf false arm) at bytes
CodeOf first_arm (instr op immediates rest) at bytes = (follows op.byte ≡ Some (form immediates)) × (Byte op ▸ ImmediatesOf immediates ▸ CodeOf first_arm rest) at bytes
CodeOf first_arm (nested op result body rest) at bytes = IsTrue (is_nest op.byte) × (Byte op ▸ BlockType result ▸ CodeOf false body ▸ CodeOf first_arm rest) at bytes
CodeOf first_arm (branched op result arms rest) at bytes = (op.byte ≡ 0x04) × (Byte op ▸ BlockType result ▸ CodeOf true arms ▸ CodeOf first_arm rest) at bytes

-- an expression (5.4.6)
abbrev pub Expression : RawCode → ℕ → List ℕ → Type 0
Expression = CodeOf false

-- what is imported (5.5.5)
abbrev pub ImportKindOf : RawKind → ℕ → List ℕ → Type 0
ImportKindOf (raw_func sort) = Exactly (0x00 ∷ []) ▸ Number sort
ImportKindOf (raw_table l) = Exactly (0x01 ∷ []) ▸ TableType l
ImportKindOf (raw_memory l) = Exactly (0x02 ∷ []) ▸ LimitsOf l
ImportKindOf (raw_global t mutable) = Exactly (0x03 ∷ []) ▸ GlobalType t mutable

-- an import (5.5.5)
abbrev pub ImportOf : RawImport → ℕ → List ℕ → Type 0
ImportOf i = Text i.module_name ▸ Text i.base ▸ ImportKindOf i.kind

-- a defined global (5.5.9)
abbrev pub GlobalOf : RawGlobal → ℕ → List ℕ → Type 0
GlobalOf g = GlobalType g.ty g.mutable ▸ Expression g.init

-- an export (5.5.10)
abbrev pub ExportOf : Export → ℕ → List ℕ → Type 0
ExportOf e = Text e.name ▸ Exactly (space_byte e.space ∷ []) ▸ Number e.index

-- an element segment (5.5.12)
abbrev pub ElementOf : RawElem → ℕ → List ℕ → Type 0
ElementOf e = Number e.table ▸ Expression e.offset ▸ Vector Number e.funcs

-- a run of locals (5.5.13)
abbrev pub RunOf : RawRun → ℕ → List ℕ → Type 0
RunOf r = Number r.count ▸ ValueType r.ty

-- a body; its runs may have any sum (5.5.13)
abbrev pub BodyOf : RawBody → ℕ → List ℕ → Type 0
BodyOf b = Number b.size ▸ Filling b.size (Vector RunOf b.locals ▸ Expression b.code)

-- a data segment (5.5.14)
abbrev pub SegmentOf : RawSegment → ℕ → List ℕ → Type 0
SegmentOf s = Number s.memory ▸ Expression s.offset ▸ Number (length s.bytes) ▸ Exactly s.bytes

-- what a section holds (5.5.3 to 5.5.14)
abbrev pub ContentOf : Section → ℕ → List ℕ → Type 0
ContentOf (custom name bytes) = Text name ▸ Exactly bytes
ContentOf (types ts) = Vector FunctionType ts
ContentOf (imports is) = Vector ImportOf is
ContentOf (functions sorts) = Vector Number sorts
ContentOf (tables ts) = Vector TableType ts
ContentOf (memories ms) = Vector LimitsOf ms
ContentOf (globals gs) = Vector GlobalOf gs
ContentOf (exports es) = Vector ExportOf es
ContentOf (start x) = Number x
ContentOf (elements es) = Vector ElementOf es
ContentOf (bodies bs) = Vector BodyOf bs
ContentOf (segments ss) = Vector SegmentOf ss

-- a section (5.5.2)
abbrev pub SectionOf : Section → ℕ → List ℕ → Type 0
SectionOf s = Exactly (section_id s ∷ []) ▸ Sized (ContentOf s)

-- A known section comes at most once, in rising id; a custom section stands anywhere (5.5.15).
abbrev pub Rising : ℕ → List Section → Type 0
Rising last [] = Unit {0}
Rising last (custom name bytes ∷ ss) = Rising last ss
Rising last (s ∷ ss) = (last < section_id s) × Rising (section_id s) ss

-- the type indices of the functions of a section (5.5.6)
abbrev pub sorts_in : Section → List ℕ
sorts_in (functions sorts) = sorts
sorts_in _ = []

-- the bodies of a section (5.5.13)
abbrev pub bodies_in : Section → List RawBody
bodies_in (bodies bs) = bs
bodies_in _ = []

-- The bytes spell these sections: behind the preamble, in order, with as many bodies as functions (5.5.15).
pub record Spells (bytes : List ℕ) (sections : List Section) : Type 0 where
  pub parts : (Exactly preamble ▸ Items SectionOf sections) 0 bytes
  pub order : Rising 0 sections
  pub counts : length (flat_map sorts_in sections) ≡ length (flat_map bodies_in sections)
