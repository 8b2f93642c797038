-- The integer types.
use Rattle.wa_types.specs.declared.values.ValType.{ValType}
use Rattle.wa_types.specs.declared.values.ValType.TheVariants.{I32, I64}

-- the integer type of the other width (2.3.1)
abbrev pub other_type : ValType → ValType
other_type I32 = I64
other_type I64 = I32
