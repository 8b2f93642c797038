-- A row of the table of loads and stores as a value of the program.
use Rattle.std.specs.Prelude.{ℕ}
use Rattle.wa_types.specs.Accesses.{AccessRow}
use Rattle.wa_ops.specs.declared.access.Access.{Access}

-- the row of an opcode
abbrev pub row_of : ℕ → Access → AccessRow
row_of op a = record { opcode = op; ty = a.ty; natural = a.natural; signed = a.signed }
