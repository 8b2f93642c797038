-- The store of a program, and what the instructions do that touch only it and their own operands (standard,
-- sections 4.2.3 and 4.4.1 to 4.4.4; copies and fills version 2.0, 4.4.7).
use Rattle.std.specs.Prelude.{ℕ, zero, suc, ◌+◌, ◌*◌, ◌^◌, ◌%◌, List, [], ◌∷◌, length, Option, Some, None, Result, Ok, Err, if◌then◌else◌, slice_set}
use Rattle.std.specs.List.{slice_index_or}
use Rattle.wa_types.specs.declared.values.ValType.{ValType}
use Rattle.wa_types.specs.declared.values.ValType.TheVariants.{I32, I64}
use Rattle.wa_types.specs.declared.values.Value.{Value}
use Rattle.wa_types.specs.declared.values.Value.TheVariants as V
use Rattle.wa_types.specs.declared.values.Trap.{Trap}
use Rattle.wa_types.specs.declared.values.Trap.TheVariants.{OutOfBounds}
use Rattle.wa_types.specs.Operators.{operand_types}
use Rattle.wa_types.specs.Accesses.{AccessRow, load_row, store_row}
use Rattle.wa_types.specs.Memory.{Memory, pages_of, number_at, with_number, copied, filled_with, grown}
use Rattle.wa_types.specs.Syntax.{Basic, nop, drop, select, const, num, global_get, global_set, load, store, memory_size, memory_grow, memory_copy, memory_fill}
use Rattle.wa_ops.specs.Integers.{extend_s}
use Rattle.wa_ops.specs.Operate.{operate, value_of, number_of}
use Rattle.wa_types.specs.Encoding.{same_type}
use Rattle.wa_types.specs.Typing.{type_of}

-- The globals' values, the memory's bytes, and each table element's function, if initialised (4.2.3, 4.2.7 to 4.2.9); empty without memory or table.
pub record Store : Type 0 where
  pub globals : List Value
  pub memory : List ℕ
  pub table : List (Option ℕ)

-- the store with another memory
abbrev pub with_memory : Store → List ℕ → Store
with_memory s memory = record { globals = s.globals; memory = memory; table = s.table }

-- the value at a place; valid code asks for none past the end (4.4.3)
abbrev pub value_at : List Value → ℕ → Value
value_at values x = slice_index_or values x (V.I32 0)

-- What an instruction did with its operands: it gave results, or trapped, or the operands were none for it.
pub data Did : Type 0 where
  works : (store : Store) → (results : List Value) → Did
  fails : (trap : Trap) → Did
  lacks : Did

-- how many operands an instruction takes (4.4.1 to 4.4.4)
abbrev pub takes : Basic → ℕ
takes nop = 0
takes drop = 1
takes select = 3
takes (const v) = 0
takes (num op) = length (operand_types op)
takes (global_get x) = 0
takes (global_set x) = 1
takes (load op align offset) = 1
takes (store op align offset) = 2
takes memory_size = 0
takes memory_grow = 1
takes memory_copy = 3
takes memory_fill = 3

-- how much more than 1 an instruction costs with its own operands, where it works: a copy or a fill its length
abbrev pub extra_cost : Basic → List Value → ℕ
extra_cost memory_copy (V.I32 n ∷ ops) = n
extra_cost memory_fill (V.I32 n ∷ ops) = n
extra_cost _ _ = 0

-- how many results it gives (4.4.1 to 4.4.4)
abbrev pub gives : Basic → ℕ
gives nop = 0
gives drop = 0
gives select = 1
gives (const v) = 1
gives (num op) = 1
gives (global_get x) = 1
gives (global_set x) = 0
gives (load op align offset) = 1
gives (store op align offset) = 0
gives memory_size = 1
gives memory_grow = 1
gives memory_copy = 0
gives memory_fill = 0

-- numeric instructions (4.4.1)
abbrev pub computed : Store → Option (Result Value Trap) → Did
computed s None = lacks
computed s (Some (Ok v)) = works s (v ∷ [])
computed s (Some (Err t)) = fails t

-- the first where the number isn't 0 (select, 4.4.2.2)
abbrev pub choose : {A : Type 0} → ℕ → A → A → A
choose zero first second = second
choose (suc n) first second = first

-- the number of bytes of an access (4.4.4.1)
abbrev pub width_of : AccessRow → ℕ
width_of row = 2 ^ row.natural

-- the number of bits of a type (2.3.1)
abbrev pub bits_of : ValType → ℕ
bits_of I32 = 32
bits_of I64 = 64

-- what a load makes of the number that its bytes spell (4.4.4.1)
abbrev pub extended : AccessRow → ℕ → Value
extended row n = value_of row.ty (if row.signed then extend_s (8 * width_of row) (bits_of row.ty) n else n)

-- a load of the number that its bytes spell, where they are all there (4.4.4.1)
abbrev pub loaded : Store → AccessRow → Option ℕ → Did
loaded s row None = fails OutOfBounds
loaded s row (Some n) = works s (extended row n ∷ [])

-- a load at a place (4.4.4.1)
abbrev pub load_at : Store → ℕ → Option AccessRow → Did
load_at s place None = lacks
load_at s place (Some row) = loaded s row (number_at s.memory place (width_of row))

-- a store, a copy or a fill, where its bytes are all there (4.4.4.2)
abbrev pub stored : Store → Option (List ℕ) → Did
stored s None = fails OutOfBounds
stored s (Some memory) = works (with_memory s memory) []

-- a store of a value at a place (4.4.4.2)
abbrev pub store_at : Store → ℕ → Value → Option AccessRow → Did
store_at s place v None = lacks
store_at s place v (Some row) = if same_type row.ty (type_of v) then stored s (with_number s.memory place (width_of row) (number_of v)) else lacks

-- memory.grow (4.4.4.4): the old number of pages, or -1
abbrev pub grew : Store → Option Memory → Did
grew s None = works s (V.I32 4294967295 ∷ [])
grew s (Some m) = works (with_memory s m.bytes) (V.I32 (pages_of s.memory) ∷ [])

-- What an instruction does with exactly its operands, the topmost first, where the memory may have so many pages at most (4.4.1 to 4.4.4).
abbrev pub act : Option ℕ → Basic → Store → List Value → Did
act most nop s [] = works s []
act most drop s (v ∷ []) = works s []
act most select s (V.I32 n ∷ upper ∷ lower ∷ []) = works s (choose n lower upper ∷ [])
act most (const v) s [] = works s (v ∷ [])
act most (num op) s ops = computed s (operate op ops)
act most (global_get x) s [] = works s (value_at s.globals x ∷ [])
act most (global_set x) s (v ∷ []) = works (record { globals = slice_set s.globals x v; memory = s.memory; table = s.table }) []
act most (load op align offset) s (V.I32 a ∷ []) = load_at s (a + offset) (load_row op)
act most (store op align offset) s (v ∷ V.I32 a ∷ []) = store_at s (a + offset) v (store_row op)
act most memory_size s [] = works s (V.I32 (pages_of s.memory) ∷ [])
act most memory_grow s (V.I32 n ∷ []) = grew s (grown (record { bytes = s.memory; max = most }) n)
act most memory_copy s (V.I32 n ∷ V.I32 from ∷ V.I32 to ∷ []) = stored s (copied s.memory to from n)
act most memory_fill s (V.I32 n ∷ V.I32 v ∷ V.I32 at ∷ []) = stored s (filled_with s.memory at (v % 256) n)
act most _ s _ = lacks

-- Bytes that an instruction reaches: the first, and how many.
pub record Range : Type 0 where
  pub at : ℕ
  pub len : ℕ

-- the range of an access at a place, where its row is there (4.4.4.1, 4.4.4.2)
abbrev pub range_of : ℕ → Option AccessRow → List Range
range_of place None = []
range_of place (Some row) = (record { at = place; len = width_of row }) ∷ []

-- the bytes that an instruction reaches with its operands, those that it writes first
abbrev pub reached : Basic → List Value → List Range
reached (load op align offset) (V.I32 a ∷ ops) = range_of (a + offset) (load_row op)
reached (store op align offset) (v ∷ V.I32 a ∷ ops) = range_of (a + offset) (store_row op)
reached memory_copy (V.I32 n ∷ V.I32 from ∷ V.I32 to ∷ ops) = (record { at = to; len = n }) ∷ (record { at = from; len = n }) ∷ []
reached memory_fill (V.I32 n ∷ v ∷ V.I32 at ∷ ops) = (record { at = at; len = n }) ∷ []
reached _ _ = []
