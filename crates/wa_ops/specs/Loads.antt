-- What a load makes of the number that it reads (standard, section 4.4.4.1).
use Rattle.std.specs.Prelude.{ℕ, ◌*◌, Bool, if◌then◌else◌}
use Rattle.wa_types.specs.declared.values.ValType.{ValType}
use Rattle.wa_types.specs.declared.values.Value.{Value}
use Rattle.wa_types.specs.Frames.{width}
use Rattle.wa_ops.specs.Integers.{extend_s}
use Rattle.wa_ops.specs.Operate.{value_of}

-- the value of a type that a load of so many bytes gives, of a signed number or of an unsigned one
abbrev pub load_value : ValType → ℕ → Bool → ℕ → Value
load_value t bytes is_signed n = value_of t (if is_signed then extend_s (8 * bytes) (8 * width t) n else n)
