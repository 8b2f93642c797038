-- The table of numeric operators (standard, sections 2.4.1, 3.3.1 and 5.4.5; the sign extensions: version 2.0, sections 2.4.1 and 5.4.7).
use Rattle.std.specs.Prelude.{ℕ, List, [], ◌∷◌}
use Rattle.wa_types.specs.declared.values.ValType.{ValType}
use Rattle.wa_types.specs.declared.values.ValType.TheVariants.{I32, I64}
use Rattle.wa_types.specs.declared.operators.NumOp.{NumOp}
use Rattle.wa_types.specs.declared.operators.NumOp.TheVariants.{I32Eqz, I32Eq, I32Ne, I32LtS, I32LtU, I32GtS, I32GtU, I32LeS, I32LeU, I32GeS, I32GeU, I64Eqz, I64Eq, I64Ne, I64LtS, I64LtU}
use Rattle.wa_types.specs.declared.operators.NumOp.TheVariants.{I64GtS, I64GtU, I64LeS, I64LeU, I64GeS, I64GeU, I32Clz, I32Ctz, I32Popcnt, I32Add, I32Sub, I32Mul, I32DivS, I32DivU, I32RemS}
use Rattle.wa_types.specs.declared.operators.NumOp.TheVariants.{I32RemU, I32And, I32Or, I32Xor, I32Shl, I32ShrS, I32ShrU, I32Rotl, I32Rotr, I64Clz, I64Ctz, I64Popcnt, I64Add, I64Sub, I64Mul}
use Rattle.wa_types.specs.declared.operators.NumOp.TheVariants.{I64DivS, I64DivU, I64RemS, I64RemU, I64And, I64Or, I64Xor, I64Shl, I64ShrS, I64ShrU, I64Rotl, I64Rotr, I32WrapI64}
use Rattle.wa_types.specs.declared.operators.NumOp.TheVariants.{I64ExtendI32S, I64ExtendI32U, I32Extend8S, I32Extend16S, I64Extend8S, I64Extend16S, I64Extend32S}

-- A row of the table (2.4.1): the opcode, the types of the operands, topmost first, and the type of the result.
pub record OperatorRow : Type 0 where
  pub opcode : ℕ
  pub operands : List ValType
  pub gives : ValType

-- the row of each operator (3.3.1, 5.4.5)
abbrev pub operator_row : NumOp → OperatorRow
operator_row I32Eqz = record { opcode = 0x45; operands = I32 ∷ []; gives = I32 }
operator_row I32Eq = record { opcode = 0x46; operands = I32 ∷ I32 ∷ []; gives = I32 }
operator_row I32Ne = record { opcode = 0x47; operands = I32 ∷ I32 ∷ []; gives = I32 }
operator_row I32LtS = record { opcode = 0x48; operands = I32 ∷ I32 ∷ []; gives = I32 }
operator_row I32LtU = record { opcode = 0x49; operands = I32 ∷ I32 ∷ []; gives = I32 }
operator_row I32GtS = record { opcode = 0x4A; operands = I32 ∷ I32 ∷ []; gives = I32 }
operator_row I32GtU = record { opcode = 0x4B; operands = I32 ∷ I32 ∷ []; gives = I32 }
operator_row I32LeS = record { opcode = 0x4C; operands = I32 ∷ I32 ∷ []; gives = I32 }
operator_row I32LeU = record { opcode = 0x4D; operands = I32 ∷ I32 ∷ []; gives = I32 }
operator_row I32GeS = record { opcode = 0x4E; operands = I32 ∷ I32 ∷ []; gives = I32 }
operator_row I32GeU = record { opcode = 0x4F; operands = I32 ∷ I32 ∷ []; gives = I32 }
operator_row I64Eqz = record { opcode = 0x50; operands = I64 ∷ []; gives = I32 }
operator_row I64Eq = record { opcode = 0x51; operands = I64 ∷ I64 ∷ []; gives = I32 }
operator_row I64Ne = record { opcode = 0x52; operands = I64 ∷ I64 ∷ []; gives = I32 }
operator_row I64LtS = record { opcode = 0x53; operands = I64 ∷ I64 ∷ []; gives = I32 }
operator_row I64LtU = record { opcode = 0x54; operands = I64 ∷ I64 ∷ []; gives = I32 }
operator_row I64GtS = record { opcode = 0x55; operands = I64 ∷ I64 ∷ []; gives = I32 }
operator_row I64GtU = record { opcode = 0x56; operands = I64 ∷ I64 ∷ []; gives = I32 }
operator_row I64LeS = record { opcode = 0x57; operands = I64 ∷ I64 ∷ []; gives = I32 }
operator_row I64LeU = record { opcode = 0x58; operands = I64 ∷ I64 ∷ []; gives = I32 }
operator_row I64GeS = record { opcode = 0x59; operands = I64 ∷ I64 ∷ []; gives = I32 }
operator_row I64GeU = record { opcode = 0x5A; operands = I64 ∷ I64 ∷ []; gives = I32 }
operator_row I32Clz = record { opcode = 0x67; operands = I32 ∷ []; gives = I32 }
operator_row I32Ctz = record { opcode = 0x68; operands = I32 ∷ []; gives = I32 }
operator_row I32Popcnt = record { opcode = 0x69; operands = I32 ∷ []; gives = I32 }
operator_row I32Add = record { opcode = 0x6A; operands = I32 ∷ I32 ∷ []; gives = I32 }
operator_row I32Sub = record { opcode = 0x6B; operands = I32 ∷ I32 ∷ []; gives = I32 }
operator_row I32Mul = record { opcode = 0x6C; operands = I32 ∷ I32 ∷ []; gives = I32 }
operator_row I32DivS = record { opcode = 0x6D; operands = I32 ∷ I32 ∷ []; gives = I32 }
operator_row I32DivU = record { opcode = 0x6E; operands = I32 ∷ I32 ∷ []; gives = I32 }
operator_row I32RemS = record { opcode = 0x6F; operands = I32 ∷ I32 ∷ []; gives = I32 }
operator_row I32RemU = record { opcode = 0x70; operands = I32 ∷ I32 ∷ []; gives = I32 }
operator_row I32And = record { opcode = 0x71; operands = I32 ∷ I32 ∷ []; gives = I32 }
operator_row I32Or = record { opcode = 0x72; operands = I32 ∷ I32 ∷ []; gives = I32 }
operator_row I32Xor = record { opcode = 0x73; operands = I32 ∷ I32 ∷ []; gives = I32 }
operator_row I32Shl = record { opcode = 0x74; operands = I32 ∷ I32 ∷ []; gives = I32 }
operator_row I32ShrS = record { opcode = 0x75; operands = I32 ∷ I32 ∷ []; gives = I32 }
operator_row I32ShrU = record { opcode = 0x76; operands = I32 ∷ I32 ∷ []; gives = I32 }
operator_row I32Rotl = record { opcode = 0x77; operands = I32 ∷ I32 ∷ []; gives = I32 }
operator_row I32Rotr = record { opcode = 0x78; operands = I32 ∷ I32 ∷ []; gives = I32 }
operator_row I64Clz = record { opcode = 0x79; operands = I64 ∷ []; gives = I64 }
operator_row I64Ctz = record { opcode = 0x7A; operands = I64 ∷ []; gives = I64 }
operator_row I64Popcnt = record { opcode = 0x7B; operands = I64 ∷ []; gives = I64 }
operator_row I64Add = record { opcode = 0x7C; operands = I64 ∷ I64 ∷ []; gives = I64 }
operator_row I64Sub = record { opcode = 0x7D; operands = I64 ∷ I64 ∷ []; gives = I64 }
operator_row I64Mul = record { opcode = 0x7E; operands = I64 ∷ I64 ∷ []; gives = I64 }
operator_row I64DivS = record { opcode = 0x7F; operands = I64 ∷ I64 ∷ []; gives = I64 }
operator_row I64DivU = record { opcode = 0x80; operands = I64 ∷ I64 ∷ []; gives = I64 }
operator_row I64RemS = record { opcode = 0x81; operands = I64 ∷ I64 ∷ []; gives = I64 }
operator_row I64RemU = record { opcode = 0x82; operands = I64 ∷ I64 ∷ []; gives = I64 }
operator_row I64And = record { opcode = 0x83; operands = I64 ∷ I64 ∷ []; gives = I64 }
operator_row I64Or = record { opcode = 0x84; operands = I64 ∷ I64 ∷ []; gives = I64 }
operator_row I64Xor = record { opcode = 0x85; operands = I64 ∷ I64 ∷ []; gives = I64 }
operator_row I64Shl = record { opcode = 0x86; operands = I64 ∷ I64 ∷ []; gives = I64 }
operator_row I64ShrS = record { opcode = 0x87; operands = I64 ∷ I64 ∷ []; gives = I64 }
operator_row I64ShrU = record { opcode = 0x88; operands = I64 ∷ I64 ∷ []; gives = I64 }
operator_row I64Rotl = record { opcode = 0x89; operands = I64 ∷ I64 ∷ []; gives = I64 }
operator_row I64Rotr = record { opcode = 0x8A; operands = I64 ∷ I64 ∷ []; gives = I64 }
operator_row I32WrapI64 = record { opcode = 0xA7; operands = I64 ∷ []; gives = I32 }
operator_row I64ExtendI32S = record { opcode = 0xAC; operands = I32 ∷ []; gives = I64 }
operator_row I64ExtendI32U = record { opcode = 0xAD; operands = I32 ∷ []; gives = I64 }
operator_row I32Extend8S = record { opcode = 0xC0; operands = I32 ∷ []; gives = I32 }
operator_row I32Extend16S = record { opcode = 0xC1; operands = I32 ∷ []; gives = I32 }
operator_row I64Extend8S = record { opcode = 0xC2; operands = I64 ∷ []; gives = I64 }
operator_row I64Extend16S = record { opcode = 0xC3; operands = I64 ∷ []; gives = I64 }
operator_row I64Extend32S = record { opcode = 0xC4; operands = I64 ∷ []; gives = I64 }

-- the opcode of a numeric operator (5.4.5)
abbrev pub opcode_of : NumOp → ℕ
opcode_of op = (operator_row op).opcode

-- the types of its operands, topmost first (3.3.1)
abbrev pub operand_types : NumOp → List ValType
operand_types op = (operator_row op).operands

-- the type of its result (3.3.1)
abbrev pub result_type : NumOp → ValType
result_type op = (operator_row op).gives

-- the least and the greatest opcode of a numeric instruction, on integers or floats (5.4.5; version 2.0, 5.4.7)
abbrev pub first_numeric : ℕ
first_numeric = 0x45

abbrev pub last_numeric : ℕ
last_numeric = 0xC4
