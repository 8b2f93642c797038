-- Ranges of opcodes without floats.
use Rattle.std.proofs.Common.{◌≡◌, ℕ, ◌+◌, ◌<◌, ◌≤◌, Bool, true, false, refl}
use Rattle.std.specs.Prelude.{not}
use Rattle.wa_types.specs.Opcodes.{is_float_op}
use Rattle.wa_types.proofs.Ranges.{all_from, passes}

clear : (b : Bool) → not b ≡ true → b ≡ false
clear true e = cc
clear false e = refl

-- an opcode of a range that holds no float's
pub no_float : (low n op : ℕ) → low ≤ op → op < low + n → all_from (λ k. not (is_float_op k)) low n ≡ true → is_float_op op ≡ false
no_float low n op h k e = clear (is_float_op op) (passes (λ j. not (is_float_op j)) low n op h k e)
