-- The opcodes of the binary format: of each instruction with what follows it, what follows each of them, and which are floats
-- (standard, sections 5.3 and 5.4; copies and fills version 2.0, 5.4.6).
use Rattle.std.specs.Prelude.{ℕ, List, [], ◌∷◌, length, Option, Some, None, Bool, nat_le, ◌==◌, ◌&&◌, ◌||◌, if◌then◌else◌}
use Rattle.wa_types.specs.declared.values.Value.TheVariants.{I32 as value_32, I64 as value_64}
use Rattle.wa_types.specs.Operators.{opcode_of, first_numeric, last_numeric}
use Rattle.wa_types.specs.Syntax.{Basic, nop, drop, select, const, num, global_get, global_set, load, store, memory_size, memory_grow, memory_copy, memory_fill, Plain, basic, local_get, local_set, local_tee, br}
use Rattle.wa_types.specs.Syntax.{br_if, br_table, return, unreachable, call, call_indirect}
use Rattle.wa_types.specs.Binary.{Immediates, nothing, zero_byte, index, index_and_zero, access, labels, constant, float, bulk}

-- the opcode of an instruction that touches only its own operands and the store, and what follows it (5.4)
abbrev pub basic_row : Basic → ℕ × Immediates
basic_row nop = (0x01, nothing)
basic_row drop = (0x1A, nothing)
basic_row select = (0x1B, nothing)
basic_row (const (value_32 n)) = (0x41, constant 32 n)
basic_row (const (value_64 n)) = (0x42, constant 64 n)
basic_row (num op) = (opcode_of op, nothing)
basic_row (global_get x) = (0x23, index x)
basic_row (global_set x) = (0x24, index x)
basic_row (load op align offset) = (op, access align offset)
basic_row (store op align offset) = (op, access align offset)
basic_row memory_size = (0x3F, zero_byte)
basic_row memory_grow = (0x40, zero_byte)
basic_row memory_copy = (0xFC, bulk 10)
basic_row memory_fill = (0xFC, bulk 11)

-- the same of an instruction that holds no other (5.4)
abbrev pub plain_row : Plain → ℕ × Immediates
plain_row (basic b) = basic_row b
plain_row (local_get x) = (0x20, index x)
plain_row (local_set x) = (0x21, index x)
plain_row (local_tee x) = (0x22, index x)
plain_row (br l) = (0x0C, index l)
plain_row (br_if l) = (0x0D, index l)
plain_row (br_table ls l) = (0x0E, labels ls l)
plain_row return = (0x0F, nothing)
plain_row unreachable = (0x00, nothing)
plain_row (call x) = (0x10, index x)
plain_row (call_indirect x) = (0x11, index_and_zero x)

-- its opcode
abbrev pub plain_opcode : Plain → ℕ
plain_opcode p = (plain_row p).0

-- what follows it
abbrev pub plain_immediates : Plain → Immediates
plain_immediates p = (plain_row p).1

-- What may follow an opcode (5.4): nothing, a zero byte, an index, both, alignment and offset, labels, a signed number of so many bits, a float,
-- or behind a prefix the number of an instruction.
pub data Form : Type 0 where
  no_immediate a_zero an_index an_index_and_zero an_access some_labels a_bulk : Form
  a_constant : (bits : ℕ) → Form
  a_float : (size : ℕ) → Form

-- a number of this range
abbrev pub within : (low high n : ℕ) → Bool
within low high n = nat_le low n && nat_le n high

-- What follows each opcode that is no construct's and no end (5.4.1 to 5.4.5).
unfoldable pub follows : ℕ → Option Form
follows op =
    if within 0x00 0x01 op then Some no_immediate
    else (if within 0x0C 0x0D op then Some an_index
    else (if op == 0x0E then Some some_labels
    else (if op == 0x0F then Some no_immediate
    else (if op == 0x10 then Some an_index
    else (if op == 0x11 then Some an_index_and_zero
    else (if within 0x1A 0x1B op then Some no_immediate
    else (if within 0x20 0x24 op then Some an_index
    else (if within 0x28 0x3E op then Some an_access
    else (if within 0x3F 0x40 op then Some a_zero
    else (if op == 0x41 then Some (a_constant 32)
    else (if op == 0x42 then Some (a_constant 64)
    else (if op == 0x43 then Some (a_float 4)
    else (if op == 0x44 then Some (a_float 8)
    else (if within first_numeric last_numeric op then Some no_immediate
    else (if op == 0xFC then Some a_bulk
    else None)))))))))))))))

-- the form of what follows an opcode (5.4)
abbrev pub form : Immediates → Form
form nothing = no_immediate
form zero_byte = a_zero
form (index x) = an_index
form (index_and_zero x) = an_index_and_zero
form (access align offset) = an_access
form (labels targets last) = some_labels
form (constant bits n) = a_constant bits
form (float bytes) = a_float (length bytes)
form (bulk n) = a_bulk

-- the zero bytes behind the number of an instruction with the prefix 0xFC; no numbers but those of a copy and a fill are read
abbrev pub zeros_of : ℕ → Option (List ℕ)
zeros_of n = if n == 10 then Some (0x00 ∷ 0x00 ∷ []) else (if n == 11 then Some (0x00 ∷ []) else None)

-- a value type (5.3.1)
abbrev pub is_value_type : ℕ → Bool
is_value_type b = within 0x7C 0x7F b

-- a float type (5.3.1)
abbrev pub is_float_type : ℕ → Bool
is_float_type b = within 0x7C 0x7D b

-- no result, or one of this type (5.3.2)
abbrev pub is_block_type : ℕ → Bool
is_block_type b = b == 0x40 || is_value_type b

-- a block or a loop (5.4.1)
abbrev pub is_nest : ℕ → Bool
is_nest op = within 0x02 0x03 op

-- the opcode of an instruction on floats (5.4.4, 5.4.5)
abbrev pub is_float_op : ℕ → Bool
is_float_op op =
    within 0x2A 0x2B op || within 0x38 0x39 op || within 0x43 0x44 op || within 0x5B 0x66 op || within 0x8B 0xA6 op
    || within 0xA8 0xAB op || within 0xAE 0xBF op

-- the opcode of a load of an integer (5.4.4)
abbrev pub is_load_op : ℕ → Bool
is_load_op op = within 0x28 0x29 op || within 0x2C 0x35 op

-- the opcode of a store of an integer (5.4.4)
abbrev pub is_store_op : ℕ → Bool
is_store_op op = within 0x36 0x37 op || within 0x3A 0x3E op
