-- Modules as plain data (standard, section 2): what they hold, whatever memory their vectors have.
use Rattle.std.specs.Prelude.{ℕ, List, Option, Bool}
use Rattle.wa_types.specs.declared.values.ValType.{ValType}
use Rattle.wa_types.specs.declared.values.Value.{Value}
use Rattle.wa_types.specs.declared.operators.NumOp.{NumOp}
use Rattle.wa_types.specs.declared.syntax.Run.{Run}
use Rattle.wa_types.specs.declared.syntax.Limits.{Limits}
use Rattle.wa_types.specs.declared.syntax.Import.{Import}
use Rattle.wa_types.specs.declared.syntax.Export.{Export}

-- An instruction that touches only its own operands and the store (2.4.1 to 2.4.4, and nop of 2.4.5).
pub data Basic : Type 0 where
  nop drop select : Basic
  const : Value → Basic
  num : NumOp → Basic
  global_get global_set : (x : ℕ) → Basic
  load store : (op align offset : ℕ) → Basic
  memory_size memory_grow memory_copy memory_fill : Basic

-- An instruction that holds no other (2.4).
pub data Plain : Type 0 where
  basic : Basic → Plain
  local_get local_set local_tee : (x : ℕ) → Plain
  br br_if : (label : ℕ) → Plain
  br_table : (labels : List ℕ) → (last : ℕ) → Plain
  return unreachable : Plain
  call call_indirect : (x : ℕ) → Plain

-- A construct with one body (2.4.5).
pub data Shape : Type 0 where
  a_block a_loop : Shape

-- A sequence of instructions (2.4.6). Each constructor has the rest of the sequence last.
pub data Code : Type 0 where
  done : Code
  plain : Plain → (rest : Code) → Code
  nest : Shape → (result : Option ValType) → (body rest : Code) → Code
  branch : (result : Option ValType) → (then_arm else_arm rest : Code) → Code

-- A function type (2.3.3).
pub record FuncType : Type 0 where
  pub params : List ValType
  pub results : List ValType

-- A defined function (2.5.3): the index of its type, its declared locals in runs, its body.
pub record Func : Type 0 where
  pub sort : ℕ
  pub locals : List Run
  pub body : Code

-- A defined global (2.5.6).
pub record GlobalDef : Type 0 where
  pub ty : ValType
  pub mutable : Bool
  pub init : Code

-- An element segment (2.5.7).
pub record Elem : Type 0 where
  pub table : ℕ
  pub offset : Code
  pub funcs : List ℕ

-- A data segment (2.5.8).
pub record Segment : Type 0 where
  pub memory : ℕ
  pub offset : Code
  pub bytes : List ℕ

-- A custom section (5.5.3), behind all known sections of an id up to `after`.
pub record Custom : Type 0 where
  pub after : ℕ
  pub name : List ℕ
  pub bytes : List ℕ

-- A module (2.5). Imports and exports hold names as lists of bytes.
pub record Module : Type 0 where
  pub types : List FuncType
  pub imports : List Import
  pub funcs : List Func
  pub tables : List Limits
  pub memories : List Limits
  pub globals : List GlobalDef
  pub exports : List Export
  pub start : Option ℕ
  pub elems : List Elem
  pub segments : List Segment
  pub customs : List Custom
