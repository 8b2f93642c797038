-- Faults of devices: what the lines of a world tell of them, and what the devices count.
use Rattle.std.specs.Prelude.{◌≡◌, ◌⊎◌, ◌≤◌, ◌+◌, ◌-◌, ◌^◌, ℕ, suc, if◌then◌else◌, Bool, List, [], ◌∷◌, Option, Some, None, slice_get}
use Rattle.std.specs.List.{AllZip}
use Rattle.wa_model.specs.declared.answers.Detach.{Detach}
use Rattle.wa_model.specs.declared.events.End.{End}
use Rattle.wa_model.specs.declared.events.End.TheVariants.{DeviceFault}
use Rattle.wa_model.specs.Outside.{Event, ended, shown, Line}
use Rattle.world_model.specs.World.{Program, ends_turn, is_named}
use Rattle.event_order.specs.Left.{Counted}
use Rattle.host_laws.specs.Supplies.{bound_to}
use Rattle.many_host.specs.Calls.{left_at}
use Rattle.world_hosting.specs.Counts.{closes}
use Rattle.world_hosting.specs.Worlds.{AreTold, Part, world_programs}

-- ---- the device that a line tells of

-- the device to which an import of a program that is there is bound
abbrev pub bound_in : Option Program → (import : ℕ) → Option (List ℕ)
bound_in None import = None
bound_in (Some w) import = bound_to w import

-- the device that has failed, where the end tells that one has
abbrev pub failed_as : Option Program → End → Option (List ℕ)
failed_as w (DeviceFault import) = bound_in w import
failed_as w _ = None

-- where the line tells that a device failed: the name of the device to which the program's import is bound
abbrev pub failed_in : Option Program → Event → Option (List ℕ)
failed_in w (ended how) = failed_as w how
failed_in w _ = None

-- the same of a line
abbrev pub failed_by : List Program → Line → Option (List ℕ)
failed_by programs l = failed_in (slice_get programs l.program) l.event

-- ---- devices with the faults that lines tell

-- with one more fault of the first device of a name
abbrev pub one_more : List ℕ → List Counted → List Counted
one_more name [] = []
one_more name (c ∷ cs) = if is_named name c.device then record { device = c.device; faults = suc c.faults } ∷ cs else c ∷ one_more name cs

-- the same where a name is told
abbrev pub one_more_if : Option (List ℕ) → List Counted → List Counted
one_more_if None cs = cs
one_more_if (Some name) cs = one_more name cs

-- The number of a line's event: one more than the events that were over. Memory that is shown begins none.
abbrev pub event_at : (begun over : ℕ) → Event → ℕ
event_at begun over (shown at bytes) = begun
event_at begun over _ = suc over

-- The devices that are left behind these lines, each with its count of faults and one more for each line that tells a fault of it: a call
-- asks the first device of a name that is left when the line's event has begun. So many events had begun before, and so many had ended.
abbrev pub with_told_by : (ends : Event → Bool) → List Program → List Detach → (begun over : ℕ) → List Line → List Counted → List Counted
with_told_by ends programs detaches begun over [] cs = cs
with_told_by ends programs detaches begun over (l ∷ ls) cs =
    with_told_by ends programs detaches (event_at begun over l.event) (over + closes ends l.event) ls
    (one_more_if (failed_by programs l) (left_at begun (event_at begun over l.event) detaches cs))

-- the same of programs without mailboxes
abbrev pub with_told : List Program → List Detach → (begun over : ℕ) → List Line → List Counted → List Counted
with_told = with_told_by ends_turn

-- ---- the law

-- The device is this one, and its count is at least this; or it stands at the greatest u64.
pub record CountsTo (least found : Counted) : Type 0 where
  pub name : found.device.name ≡ least.device.name
  pub faults : (least.faults ≤ found.faults) ⊎ (2 ^ 64 - 1 ≤ found.faults)

-- Of all that is told of the programs of a script, to the end: the count of each device that is left is at least its old one and the
-- number of lines `end device fault` of calls to it, or stands at the greatest u64.
abbrev pub FaultsAreCounted : Type 0
FaultsAreCounted =
    (parts : List Part) (detaches : List Detach) (old new : List Counted) (text : List ℕ) (told : AreTold parts detaches old new text)
    → AllZip CountsTo (with_told (world_programs parts) detaches 0 0 told.lines old) new
