-- What a file of the binary format holds (standard, section 5): its sections as they stand there, floats among
-- them, with the offset of every opcode and every value type.
use Rattle.std.specs.Prelude.{ℕ, List, Bool}
use Rattle.wa_types.specs.declared.syntax.Limits.{Limits}
use Rattle.wa_types.specs.declared.syntax.Export.{Export}

-- The byte of an opcode or of a value type, with its offset.
pub record Placed : Type 0 where
  pub place : ℕ
  pub byte : ℕ

-- What follows an opcode, other than a construct's (5.4).
pub data Immediates : Type 0 where
  nothing zero_byte : Immediates
  index index_and_zero : (x : ℕ) → Immediates
  access : (align offset : ℕ) → Immediates
  labels : (targets : List ℕ) → (last : ℕ) → Immediates
  constant : (bits n : ℕ) → Immediates
  float : (bytes : List ℕ) → Immediates
  bulk : (n : ℕ) → Immediates  -- the number of a copy or fill of memory, and its zero bytes

-- Instructions up to their end, each before the rest (5.4.1, 5.4.6). An if's arms are one sequence: the first ends, or an else leads on.
pub data RawCode : Type 0 where
  ended : (place : ℕ) → RawCode
  otherwise : (place : ℕ) → (arm : RawCode) → RawCode
  instr : (op : Placed) → Immediates → (rest : RawCode) → RawCode
  nested : (op result : Placed) → (body rest : RawCode) → RawCode
  branched : (op result : Placed) → (arms rest : RawCode) → RawCode

-- A function type (5.3.3).
pub record RawType : Type 0 where
  pub params : List Placed
  pub results : List Placed

-- What is imported (5.5.5).
pub data RawKind : Type 0 where
  raw_func : (sort : ℕ) → RawKind
  raw_table raw_memory : Limits → RawKind
  raw_global : (ty : Placed) → (mutable : Bool) → RawKind

-- An import (5.5.5).
pub record RawImport : Type 0 where
  pub module_name : List ℕ
  pub base : List ℕ
  pub kind : RawKind

-- A defined global (5.5.9).
pub record RawGlobal : Type 0 where
  pub ty : Placed
  pub mutable : Bool
  pub init : RawCode

-- An element segment (5.5.12).
pub record RawElem : Type 0 where
  pub table : ℕ
  pub offset : RawCode
  pub funcs : List ℕ

-- So many locals of one type (5.5.13).
pub record RawRun : Type 0 where
  pub count : ℕ
  pub ty : Placed

-- A body, with its declared size (5.5.13).
pub record RawBody : Type 0 where
  pub size : ℕ
  pub locals : List RawRun
  pub code : RawCode

-- A data segment (5.5.14).
pub record RawSegment : Type 0 where
  pub memory : ℕ
  pub offset : RawCode
  pub bytes : List ℕ

-- A section (5.5.2 to 5.5.14).
pub data Section : Type 0 where
  custom : (name bytes : List ℕ) → Section
  types : List RawType → Section
  imports : List RawImport → Section
  functions : (sorts : List ℕ) → Section
  tables memories : List Limits → Section
  globals : List RawGlobal → Section
  exports : List Export → Section
  start : (x : ℕ) → Section
  elements : List RawElem → Section
  bodies : List RawBody → Section
  segments : List RawSegment → Section

-- the number of a section (5.5.2)
abbrev pub section_id : Section → ℕ
section_id (custom name bytes) = 0
section_id (types ts) = 1
section_id (imports is) = 2
section_id (functions sorts) = 3
section_id (tables ts) = 4
section_id (memories ms) = 5
section_id (globals gs) = 6
section_id (exports es) = 7
section_id (start x) = 8
section_id (elements es) = 9
section_id (bodies bs) = 10
section_id (segments ss) = 11
