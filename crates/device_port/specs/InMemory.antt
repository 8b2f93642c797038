-- What is known of the devices in memory.
use Rattle.std.specs.Prelude.{ℕ, List}
use Rattle.world_model.specs.World.{Device}
use Rattle.vault_port.specs.Counts.{one_more}
use Rattle.device_port.specs.declared.counter.Counter.{Counter}
use Rattle.device_port.specs.declared.echo.Echo.{Echo}
use Rattle.device_port.specs.declared.fault_at.FaultAt.{FaultAt}

-- a counter as a world sees it
abbrev pub counter : Counter → Device
counter d = record { name = d.name; journal = d.journal }

-- the ticks of a counter's answers
abbrev pub ticks_of : Counter → ℕ
ticks_of d = d.ticks

-- an echo as a world sees it
abbrev pub echo : Echo → Device
echo d = record { name = d.name; journal = d.journal }

-- a FaultAt as a world sees it
abbrev pub fault_at : FaultAt → Device
fault_at d = counter d.counter

-- the ticks of a FaultAt's answers
abbrev pub fault_ticks : FaultAt → ℕ
fault_ticks d = ticks_of d.counter

-- which of its calls fail
abbrev pub failing : FaultAt → List ℕ
failing d = d.fail.items

-- the number of its next call, from 1
abbrev pub next_call : FaultAt → ℕ
next_call d = one_more d.calls

-- how many of its calls have failed
abbrev pub failed : FaultAt → ℕ
failed d = d.faults
