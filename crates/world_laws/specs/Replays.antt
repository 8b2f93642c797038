-- What a world's devices keep of it: from journals and told faults the lines follow.
use Rattle.std.specs.Prelude.{◌≡◌, ℕ, List, Some, None, Bool, true, false, All, slice_get}
use Rattle.std.specs.Option.{unwrap_or}
use Rattle.wa_types.specs.Validity.{same_name}
use Rattle.wa_model.specs.declared.answers.Detach.{Detach}
use Rattle.wa_model.specs.declared.events.End.{End}
use Rattle.wa_model.specs.declared.events.End.TheVariants.{DeviceFault}
use Rattle.wa_model.specs.Outside.{Event, ended, Line}
use Rattle.world_model.specs.World.{Device, Program, ProtocolWorldFrom}
use Rattle.world_laws.specs.AloneLines.{Unbound}

-- an end by a device that failed
abbrev pub is_device_fault : End → Bool
is_device_fault (DeviceFault import) = true
is_device_fault _ = false

-- a device failed
abbrev pub is_fault : Event → Bool
is_fault (ended how) = is_device_fault how
is_fault _ = false

-- no line takes out a device of a name to which an import is bound
abbrev pub Lasting : List Program → List Detach → Type 0
Lasting programs detaches =
    (i import : ℕ) (w : Program) (name : List ℕ) → slice_get programs i ≡ Some w → unwrap_or (slice_get w.binds import) None ≡ Some name
    → All (λ (x : Detach). same_name x.device name ≡ false) detaches

-- as far as both go, lines of one place both tell a fault, or neither does
abbrev pub SameFaults : (lines1 lines2 : List Line) → Type 0
SameFaults lines1 lines2 = (i : ℕ) (x y : Line) → slice_get lines1 i ≡ Some x → slice_get lines2 i ≡ Some y → is_fault x.event ≡ is_fault y.event

-- Two runs of one world, of which no bound device is taken out, that end with the same devices, journals included, and tell faults
-- at the same places, have the same lines. (The places count: of two programs that ask one device, one may fail at its first call
-- or at its second, and journals and told faults be the same.)
abbrev pub JournalsFixLines : Type 0
JournalsFixLines =
    (begun : ℕ) (programs : List Program) (detaches : List Detach) (ds ds' : List Device) (lines1 lines2 : List Line) → Lasting programs detaches
    → ProtocolWorldFrom begun programs detaches ds lines1 ds' → ProtocolWorldFrom begun programs detaches ds lines2 ds' → SameFaults lines1 lines2 → lines1 ≡ lines2

-- A world of programs whose imports are bound to no device has one run.
abbrev pub UnboundFixLines : Type 0
UnboundFixLines =
    (begun : ℕ) (programs : List Program) (detaches : List Detach) (ds ds1 ds2 : List Device) (lines1 lines2 : List Line) → All Unbound programs
    → ProtocolWorldFrom begun programs detaches ds lines1 ds1 → ProtocolWorldFrom begun programs detaches ds lines2 ds2 → (lines1 ≡ lines2) × (ds1 ≡ ds2)
