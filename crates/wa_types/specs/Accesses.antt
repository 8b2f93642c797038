-- The table of integer loads and stores (standard, sections 2.4.4, 3.3.4 and 5.4.4).
use Rattle.std.specs.Prelude.{ℕ, List, [], ◌∷◌, Option, Bool, true, false, ◌==◌}
use Rattle.std.specs.List.{find}
use Rattle.wa_types.specs.declared.values.ValType.{ValType}
use Rattle.wa_types.specs.declared.values.ValType.TheVariants.{I32, I64}

-- A row of the table (2.4.4): opcode, type, natural alignment as an exponent of 2, which also gives the bytes, and whether a load extends a sign.
pub record AccessRow : Type 0 where
  pub opcode : ℕ
  pub ty : ValType
  pub natural : ℕ
  pub signed : Bool

-- the loads of integers (5.4.4)
abbrev pub load_rows : List AccessRow
load_rows =
    record { opcode = 0x28; ty = I32; natural = 2; signed = false }
    ∷ record { opcode = 0x29; ty = I64; natural = 3; signed = false }
    ∷ record { opcode = 0x2C; ty = I32; natural = 0; signed = true }
    ∷ record { opcode = 0x2D; ty = I32; natural = 0; signed = false }
    ∷ record { opcode = 0x2E; ty = I32; natural = 1; signed = true }
    ∷ record { opcode = 0x2F; ty = I32; natural = 1; signed = false }
    ∷ record { opcode = 0x30; ty = I64; natural = 0; signed = true }
    ∷ record { opcode = 0x31; ty = I64; natural = 0; signed = false }
    ∷ record { opcode = 0x32; ty = I64; natural = 1; signed = true }
    ∷ record { opcode = 0x33; ty = I64; natural = 1; signed = false }
    ∷ record { opcode = 0x34; ty = I64; natural = 2; signed = true }
    ∷ record { opcode = 0x35; ty = I64; natural = 2; signed = false }
    ∷ []

-- the stores of integers (5.4.4)
abbrev pub store_rows : List AccessRow
store_rows =
    record { opcode = 0x36; ty = I32; natural = 2; signed = false }
    ∷ record { opcode = 0x37; ty = I64; natural = 3; signed = false }
    ∷ record { opcode = 0x3A; ty = I32; natural = 0; signed = false }
    ∷ record { opcode = 0x3B; ty = I32; natural = 1; signed = false }
    ∷ record { opcode = 0x3C; ty = I64; natural = 0; signed = false }
    ∷ record { opcode = 0x3D; ty = I64; natural = 1; signed = false }
    ∷ record { opcode = 0x3E; ty = I64; natural = 2; signed = false }
    ∷ []

-- the load of this opcode, where there is one (5.4.4)
abbrev pub load_row : ℕ → Option AccessRow
load_row op = find (λ row. row.opcode == op) load_rows

-- the store of this opcode, where there is one (5.4.4)
abbrev pub store_row : ℕ → Option AccessRow
store_row op = find (λ row. row.opcode == op) store_rows
