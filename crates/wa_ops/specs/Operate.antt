-- What each numeric operator does (standard, sections 2.4.1 and 4.4.1): a table, and the one function on values that
-- the contracts of the four calls cite.
use Rattle.std.specs.Prelude.{ℕ, Bool, true, false, ◌&&◌, if◌then◌else◌, List, [], ◌∷◌, map, Option, Some, None, Result, Ok, Err}
use Rattle.std.specs.Option.{option_map}
use Rattle.wa_types.specs.declared.values.ValType.{ValType}
use Rattle.wa_types.specs.declared.values.ValType.TheVariants.{I32, I64}
use Rattle.wa_types.specs.declared.values.Value.{Value}
use Rattle.wa_types.specs.declared.values.Value.TheVariants as V
use Rattle.wa_types.specs.declared.values.Trap.{Trap}
use Rattle.wa_types.specs.declared.operators.NumOp.{NumOp}
use Rattle.wa_types.specs.declared.operators.NumOp.TheVariants.{I32Eqz, I32Eq, I32Ne, I32LtS, I32LtU, I32GtS, I32GtU, I32LeS, I32LeU, I32GeS, I32GeU, I64Eqz, I64Eq, I64Ne, I64LtS, I64LtU}
use Rattle.wa_types.specs.declared.operators.NumOp.TheVariants.{I64GtS, I64GtU, I64LeS, I64LeU, I64GeS, I64GeU, I32Clz, I32Ctz, I32Popcnt, I32Add, I32Sub, I32Mul, I32DivS, I32DivU, I32RemS}
use Rattle.wa_types.specs.declared.operators.NumOp.TheVariants.{I32RemU, I32And, I32Or, I32Xor, I32Shl, I32ShrS, I32ShrU, I32Rotl, I32Rotr, I64Clz, I64Ctz, I64Popcnt, I64Add, I64Sub, I64Mul}
use Rattle.wa_types.specs.declared.operators.NumOp.TheVariants.{I64DivS, I64DivU, I64RemS, I64RemU, I64And, I64Or, I64Xor, I64Shl, I64ShrS, I64ShrU, I64Rotl, I64Rotr, I32WrapI64}
use Rattle.wa_types.specs.declared.operators.NumOp.TheVariants.{I64ExtendI32S, I64ExtendI32U, I32Extend8S, I32Extend16S, I64Extend8S, I64Extend16S, I64Extend32S}
use Rattle.wa_types.specs.Encoding.{same_type}
use Rattle.wa_types.specs.Operators.{operand_types, result_type}
use Rattle.wa_types.specs.Typing.{type_of}
use Rattle.wa_ops.specs.declared.class.OperatorClass.{OperatorClass}
use Rattle.wa_ops.specs.declared.class.OperatorClass.TheVariants.{Unary, Conversion, Comparison, Binary}
use Rattle.wa_ops.specs.Integers.{iclz, ictz, ipopcnt, ieqz, iadd, isub, imul, idiv_u, idiv_s, irem_u, irem_s, iand, ior, ixor, ishl, ishr_u, ishr_s, irotl, irotr, ieq, ine, ilt_u, ilt_s}
use Rattle.wa_ops.specs.Integers.{igt_u, igt_s, ile_u, ile_s, ige_u, ige_s, wrap, extend_u, extend_s, iextend_s}

-- What an operator makes of its operands' numbers: of one (unop, testop, cvtop), or of two (relop, binop). Only a binop may trap.
pub data Meaning : Type 0 where
  unary : (of_one : ℕ → ℕ) → Meaning
  conversion : (of_one : ℕ → ℕ) → Meaning
  comparison : (of_two : ℕ → ℕ → ℕ) → Meaning
  binary : (of_two : ℕ → ℕ → Result ℕ Trap) → Meaning

-- a binop that is defined at all numbers
abbrev pub always : (ℕ → ℕ → ℕ) → Meaning
always f = binary (λ i j. Ok (f i j))

-- the table of meanings (4.4.1)
abbrev pub meaning_of : NumOp → Meaning
meaning_of I32Eqz = unary ieqz
meaning_of I32Eq = comparison ieq
meaning_of I32Ne = comparison ine
meaning_of I32LtS = comparison (ilt_s 32)
meaning_of I32LtU = comparison ilt_u
meaning_of I32GtS = comparison (igt_s 32)
meaning_of I32GtU = comparison igt_u
meaning_of I32LeS = comparison (ile_s 32)
meaning_of I32LeU = comparison ile_u
meaning_of I32GeS = comparison (ige_s 32)
meaning_of I32GeU = comparison ige_u
meaning_of I64Eqz = unary ieqz
meaning_of I64Eq = comparison ieq
meaning_of I64Ne = comparison ine
meaning_of I64LtS = comparison (ilt_s 64)
meaning_of I64LtU = comparison ilt_u
meaning_of I64GtS = comparison (igt_s 64)
meaning_of I64GtU = comparison igt_u
meaning_of I64LeS = comparison (ile_s 64)
meaning_of I64LeU = comparison ile_u
meaning_of I64GeS = comparison (ige_s 64)
meaning_of I64GeU = comparison ige_u
meaning_of I32Clz = unary (iclz 32)
meaning_of I32Ctz = unary (ictz 32)
meaning_of I32Popcnt = unary (ipopcnt 32)
meaning_of I32Add = always (iadd 32)
meaning_of I32Sub = always (isub 32)
meaning_of I32Mul = always (imul 32)
meaning_of I32DivS = binary (idiv_s 32)
meaning_of I32DivU = binary idiv_u
meaning_of I32RemS = binary (irem_s 32)
meaning_of I32RemU = binary irem_u
meaning_of I32And = always iand
meaning_of I32Or = always ior
meaning_of I32Xor = always ixor
meaning_of I32Shl = always (ishl 32)
meaning_of I32ShrS = always (ishr_s 32)
meaning_of I32ShrU = always (ishr_u 32)
meaning_of I32Rotl = always (irotl 32)
meaning_of I32Rotr = always (irotr 32)
meaning_of I64Clz = unary (iclz 64)
meaning_of I64Ctz = unary (ictz 64)
meaning_of I64Popcnt = unary (ipopcnt 64)
meaning_of I64Add = always (iadd 64)
meaning_of I64Sub = always (isub 64)
meaning_of I64Mul = always (imul 64)
meaning_of I64DivS = binary (idiv_s 64)
meaning_of I64DivU = binary idiv_u
meaning_of I64RemS = binary (irem_s 64)
meaning_of I64RemU = binary irem_u
meaning_of I64And = always iand
meaning_of I64Or = always ior
meaning_of I64Xor = always ixor
meaning_of I64Shl = always (ishl 64)
meaning_of I64ShrS = always (ishr_s 64)
meaning_of I64ShrU = always (ishr_u 64)
meaning_of I64Rotl = always (irotl 64)
meaning_of I64Rotr = always (irotr 64)
meaning_of I32WrapI64 = conversion (wrap 32)
meaning_of I64ExtendI32S = conversion (extend_s 32 64)
meaning_of I64ExtendI32U = conversion extend_u
meaning_of I32Extend8S = unary (iextend_s 8 32)
meaning_of I32Extend16S = unary (iextend_s 16 32)
meaning_of I64Extend8S = unary (iextend_s 8 64)
meaning_of I64Extend16S = unary (iextend_s 16 64)
meaning_of I64Extend32S = unary (iextend_s 32 64)

-- which of the four calls takes an operator of a meaning (2.4.1)
abbrev pub class_in : Meaning → OperatorClass
class_in (unary f) = Unary
class_in (conversion f) = Conversion
class_in (comparison f) = Comparison
class_in (binary f) = Binary

-- which of the four calls takes an operator
abbrev pub class_of : NumOp → OperatorClass
class_of op = class_in (meaning_of op)

-- the number of a value
abbrev pub number_of : Value → ℕ
number_of (V.I32 n) = n
number_of (V.I64 n) = n

-- the value of a type with a number
abbrev pub value_of : ValType → ℕ → Value
value_of I32 n = V.I32 n
value_of I64 n = V.I64 n

-- whether values have types, in order
abbrev pub are_of : List ValType → List Value → Bool
are_of [] [] = true
are_of (t ∷ types) (v ∷ values) = same_type t (type_of v) && are_of types values
are_of _ _ = false

-- what a meaning makes of numbers, the second operand first; None where their count is wrong
abbrev pub applied : Meaning → List ℕ → Option (Result ℕ Trap)
applied (unary f) (i ∷ []) = Some (Ok (f i))
applied (conversion f) (i ∷ []) = Some (Ok (f i))
applied (comparison f) (j ∷ i ∷ []) = Some (Ok (f i j))
applied (binary f) (j ∷ i ∷ []) = Some (f i j)
applied _ _ = None

-- a result as a value of a type
abbrev pub valued : ValType → Result ℕ Trap → Result Value Trap
valued t (Ok n) = Ok (value_of t n)
valued t (Err trap) = Err trap

-- What an operator makes of operands, topmost first (4.4.1): a value or a trap, and nothing where they aren't of its types.
abbrev pub operate : NumOp → List Value → Option (Result Value Trap)
operate op operands =
    if are_of (operand_types op) operands
    then option_map (valued (result_type op)) (applied (meaning_of op) (map number_of operands))
    else None
