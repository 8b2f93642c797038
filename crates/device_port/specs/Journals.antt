-- What a device has answered, in the words of the definition of a world.
use Rattle.std.specs.Prelude.{ℕ, List, [], ◌∷◌, ◌++◌}
use Rattle.wa_types.specs.declared.values.Value.{Value}
use Rattle.wa_model.specs.declared.answers.Said.TheVariants as S
use Rattle.wa_model.specs.Plan.{Outcome, given}
use Rattle.world_model.specs.World.{Device, Asked}
use Rattle.device_port.specs.declared.device.Reply.{Reply}

-- a device as a world sees it: its name, and its journal, the calls that it has answered
abbrev pub Seen : Type 0
Seen = Device

-- the journal's entry of an answered call
abbrev pub entry : (base : List ℕ) → List Value → Reply → Asked
entry base args reply = record { base = base; args = args; reply = record { value = reply.value; ticks = reply.ticks } }

-- the device once it has answered one more call
abbrev pub with_entry : Asked → Device → Device
with_entry call d = record { name = d.name; journal = d.journal ++ call ∷ [] }

-- what a new call meets where its device replies so
abbrev pub replied : Reply → Outcome
replied reply = given (record { said = S.Value reply.value; pokes = []; ticks = reply.ticks })
