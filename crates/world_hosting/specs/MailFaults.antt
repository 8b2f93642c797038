-- Faults of devices in a run with mailboxes: what its lines tell of them, and what the devices count.
use Rattle.std.specs.Prelude.{ℕ, List}
use Rattle.std.specs.List.{AllZip}
use Rattle.wa_model.specs.declared.answers.Detach.{Detach}
use Rattle.event_order.specs.Left.{Counted}
use Rattle.world_hosting.specs.FaultCounts.{CountsTo, with_told_by}
use Rattle.world_hosting.specs.MailCounts.{ends_event}
use Rattle.world_hosting.specs.MailWorlds.{AreMailTold}
use Rattle.world_hosting.specs.Worlds.{Part, world_programs}

-- Of all that is told of the programs of a script with mailboxes, to the end: the count of each device that is left is at least its old one and
-- the number of lines `end device fault` of calls to it, or stands at the greatest u64.
abbrev pub MailFaultsAreCounted : Type 0
MailFaultsAreCounted =
    (parts : List Part) (detaches : List Detach) (boxes : List (List ℕ)) (old new : List Counted) (text : List ℕ) (told : AreMailTold parts detaches boxes old new text)
    → AllZip CountsTo (with_told_by ends_event (world_programs parts) detaches 0 0 told.lines old) new
