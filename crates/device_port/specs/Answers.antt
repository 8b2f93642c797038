-- What the devices in memory answer.
use Rattle.std.specs.Prelude.{ℕ, ◌%◌, ◌^◌, List, length, slice_get, Option, Some}
use Rattle.wa_types.specs.declared.values.Value.{Value}
use Rattle.wa_types.specs.declared.values.Value.TheVariants.{I32}
use Rattle.world_model.specs.World.{Asked}
use Rattle.device_port.specs.declared.device.Reply.{Reply}

-- a counter's: how many calls it has answered, modulo 2^32, with the ticks it was made with
abbrev pub counted : (ticks : ℕ) → (journal : List Asked) → Reply
counted ticks journal = record { value = Some (I32 (length journal % 2 ^ 32)); ticks = ticks }

-- the ticks that an argument names: none unless it is an i32
abbrev pub ticks_named : Option Value → ℕ
ticks_named (Some (I32 ticks)) = ticks
ticks_named _ = 0

-- an echo's: its first argument, where there is one, with the ticks that its second names
abbrev pub echoed : List Value → Reply
echoed args = record { value = slice_get args 0; ticks = ticks_named (slice_get args 1) }
