-- Instructions that hold no other, of the program's values.
use Rattle.std.specs.Prelude.{Bool, true, false}
use Rattle.wa_types.specs.declared.instrs.Instr.{Instr}
use Rattle.wa_types.specs.declared.instrs.Instr.TheVariants.{Block', Loop', If'}

-- an instruction that holds no other (2.4)
unfoldable pub is_leaf : Instr → Bool
is_leaf (Block' r s k) = false
is_leaf (Loop' r s k) = false
is_leaf (If' r s k t l) = false
is_leaf _ = true
