-- The ends of instantiation as faults.
use Rattle.std.specs.Prelude.{◌≡◌}
use Rattle.wa_model.specs.declared.events.End.TheVariants as E
use Rattle.wa_model.specs.Instantiation.{Opening, fails_as}
use Rattle.interp_state.specs.declared.make.MakeFault.{MakeFault}
use Rattle.interp_state.specs.declared.make.MakeFault.TheVariants.{Memory, HostLimit, ElementsOut, BytesOut}

-- a fault is how instantiation ends; want of memory may come always
abbrev pub FailsAs : Opening → MakeFault → Type 0
FailsAs o Memory = Unit {0}
FailsAs o (HostLimit entries found) = o ≡ fails_as (E.HostLimit entries found)
FailsAs o (ElementsOut i) = o ≡ fails_as (E.ElementsOut i)
FailsAs o (BytesOut i) = o ≡ fails_as (E.BytesOut i)
