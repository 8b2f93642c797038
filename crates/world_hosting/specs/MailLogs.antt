-- What each device has answered in a run with mailboxes.
use Rattle.std.specs.Prelude.{◌≡◌, ℕ, List, []}
use Rattle.wa_model.specs.declared.answers.Detach.{Detach}
use Rattle.wa_model.specs.Outside.{Line}
use Rattle.wa_model.specs.Plan.{Outcome}
use Rattle.world_model.specs.World.{Device, Program}
use Rattle.event_order.specs.Left.{Counted}
use Rattle.many_host.specs.Calls.{devices_of}
use Rattle.world_hosting.specs.DeviceLogs.{answered_as, device_log, taken_by, with_logs}
use Rattle.world_hosting.specs.MailCounts.{device_for, ends_event, event_count}
use Rattle.world_hosting.specs.MailWorlds.{AreMailTold}
use Rattle.world_hosting.specs.Worlds.{Part, world_programs}

-- The devices that these lines leave are those that were there, in order, each with its log behind its journal: the answered calls of imports that
-- are bound to its name, where no mailbox has that.
abbrev pub AreLoggedBeside : (boxes : List (List ℕ)) → List Program → List Detach → List Line → (met : List (List Outcome)) → (ds ds' : List Device) → Type 0
AreLoggedBeside boxes programs detaches lines met ds ds' =
    ds' ≡ with_logs (taken_by (event_count lines) detaches) (device_log detaches (answered_as ends_event (device_for boxes) programs 0 lines met)) [] ds

-- So it is with all that is told of the programs of a script with mailboxes, to the end.
abbrev pub MailDevicesAreLogged : Type 0
MailDevicesAreLogged =
    (parts : List Part) (detaches : List Detach) (boxes : List (List ℕ)) (old new : List Counted) (text : List ℕ) (told : AreMailTold parts detaches boxes old new text)
    → AreLoggedBeside boxes (world_programs parts) detaches told.lines told.met (devices_of old) (devices_of new)
