-- The outcomes of calls fix the run of a world with mailboxes.
use Rattle.std.specs.Prelude.{◌≡◌, ℕ, List}
use Rattle.std.specs.List.{AllZip}
use Rattle.wa_model.specs.declared.answers.Detach.{Detach}
use Rattle.wa_model.specs.Outside.{Line}
use Rattle.world_model.specs.World.{Device, Original, Program}
use Rattle.mail_laws.specs.MailOriginals.{met}
use Rattle.mail_laws.specs.MailWorld.{Actor, BlockingWorld, ProtocolWorldFrom}

-- The outcomes that the calls of each program have met fix the lines of a world, and what its devices are at the end.
abbrev pub MetFixLines : Type 0
MetFixLines =
    (begun : ℕ) (programs : List Program) (detaches : List Detach) (boxes : List (List ℕ)) (ds ds1 ds2 : List Device) (lines1 lines2 : List Line)
    → (one : ProtocolWorldFrom begun programs detaches boxes ds lines1 ds1) → (other : ProtocolWorldFrom begun programs detaches boxes ds lines2 ds2)
    → AllZip (λ (a b : Actor). met a ≡ met b) one.actors other.actors → (lines1 ≡ lines2) × (ds1 ≡ ds2)

-- Two actors make the same notes, and their calls will meet the same outcomes.
abbrev pub SameStories : Actor → Actor → Type 0
SameStories a b = (a.notes ≡ b.notes) × (met a ≡ met b)

-- In the blocking world, where a program's outcomes leave open how far its story goes, both together fix them.
abbrev pub StoriesFixLines : Type 0
StoriesFixLines =
    (originals : List Original) (detaches : List Detach) (boxes : List (List ℕ)) (ds ds1 ds2 : List Device) (lines1 lines2 : List Line)
    → (one : BlockingWorld originals detaches boxes ds lines1 ds1) → (other : BlockingWorld originals detaches boxes ds lines2 ds2)
    → AllZip SameStories one.actors other.actors → (lines1 ≡ lines2) × (ds1 ≡ ds2)
