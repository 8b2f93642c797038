-- The devices at the end of a run of a world with mailboxes are those of its start.
use Rattle.std.specs.Prelude.{◌≡◌, ℕ, List, [], length}
use Rattle.wa_model.specs.declared.answers.Detach.{Detach}
use Rattle.wa_model.specs.Outside.{Line}
use Rattle.world_model.specs.World.{Device, Original, Program}
use Rattle.world_laws.specs.Kept.{Kept}
use Rattle.mail_laws.specs.MailWorld.{BlockingWorld, ProtocolWorldFrom}
use Rattle.mail_laws.specs.Played.{ProtocolWorldUpToFrom}

-- At the end of a run the devices are those of its start in their order, some of which may have been taken out; each keeps its name and
-- what its journal held: under the protocol,
abbrev pub DevicesKept : Type 0
DevicesKept =
    (begun : ℕ) (programs : List Program) (detaches : List Detach) (boxes : List (List ℕ)) (ds ds' : List Device) (lines : List Line)
    → ProtocolWorldFrom begun programs detaches boxes ds lines ds' → Kept ds ds'

-- up to each event,
abbrev pub DevicesKeptUpTo : Type 0
DevicesKeptUpTo =
    (begun : ℕ) (programs : List Program) (detaches : List Detach) (boxes : List (List ℕ)) (ds ds' : List Device) (number : ℕ) (lines : List Line)
    → ProtocolWorldUpToFrom begun programs detaches boxes ds number lines ds' → Kept ds ds'

-- and with blocking imports;
abbrev pub DevicesKeptBlocking : Type 0
DevicesKeptBlocking =
    (originals : List Original) (detaches : List Detach) (boxes : List (List ℕ)) (ds ds' : List Device) (lines : List Line)
    → BlockingWorld originals detaches boxes ds lines ds' → Kept ds ds'

-- and where no line takes out any, all of them are there.
abbrev pub NoneTakenOut : Type 0
NoneTakenOut =
    (begun : ℕ) (programs : List Program) (boxes : List (List ℕ)) (ds ds' : List Device) (lines : List Line)
    → ProtocolWorldFrom begun programs [] boxes ds lines ds' → length ds' ≡ length ds
