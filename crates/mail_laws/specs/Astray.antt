-- No rewritten module of a world with mailboxes goes astray.
use Rattle.std.specs.Prelude.{◌≡◌, ℕ, List, false, All}
use Rattle.std.specs.List.{AllZip}
use Rattle.wa_model.specs.declared.answers.Detach.{Detach}
use Rattle.wa_model.specs.Outside.{Line}
use Rattle.world_model.specs.World.{Device, Original, Program}
use Rattle.world_laws.specs.Bounded.{ends_astray}
use Rattle.world_laws.specs.Originals.{MayRun, Orderly, StandsIn}
use Rattle.world_laws.specs.UntoldWorlds.{MayRunUntold, OrderlyUntold}
use Rattle.mail_laws.specs.MailWorld.{ProtocolWorld}
use Rattle.mail_laws.specs.MailOriginals.{AllRunAsFar}

-- No rewritten module that stands in for an original breaks the protocol, or traps while it rewinds, where the originals run orderly as far
-- as is asked of them beside a world with mailboxes;
abbrev pub NoneAstray : Type 0
NoneAstray =
    (originals : List Original) (programs : List Program) (detaches : List Detach) (boxes : List (List ℕ)) (ds ds' : List Device) (lines : List Line)
    → AllZip StandsIn originals programs → All MayRun originals → (world : ProtocolWorld programs detaches boxes ds lines ds')
    → AllRunAsFar Orderly originals programs world.actors → All (λ (l : Line). ends_astray l.event ≡ false) lines

-- so it is where plans tell no list of imports.
abbrev pub NoneAstrayUntold : Type 0
NoneAstrayUntold =
    (originals : List Original) (programs : List Program) (detaches : List Detach) (boxes : List (List ℕ)) (ds ds' : List Device) (lines : List Line)
    → AllZip StandsIn originals programs → All MayRunUntold originals → (world : ProtocolWorld programs detaches boxes ds lines ds')
    → AllRunAsFar OrderlyUntold originals programs world.actors → All (λ (l : Line). ends_astray l.event ≡ false) lines
