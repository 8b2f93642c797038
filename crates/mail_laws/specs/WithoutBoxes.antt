-- Without mailboxes the world is that of `world_model`.
use Rattle.std.specs.Prelude.{◌≡◌, ◌↔◌, ℕ, List, [], map, None, All}
use Rattle.wa_model.specs.declared.answers.Detach.{Detach}
use Rattle.wa_model.specs.Outside.{Line}
use Rattle.world_model.specs.World.{Actor as Unboxed, BlockingWorld as UnboxedBlocking, Device, Events as UnboxedEvents, Original, Program, ProtocolWorldFrom as UnboxedWorldFrom}
use Rattle.mail_laws.specs.Mailboxes.{Shared}
use Rattle.mail_laws.specs.MailWorld.{Actor, BlockingWorld, Events, Plays, ProtocolWorldFrom, TakesTurn}

-- a program doesn't wait
abbrev pub IsAwake : Actor → Type 0
IsAwake a = a.parked ≡ None

-- the actor of the world without mailboxes
abbrev pub unboxed : Actor → Unboxed
unboxed a = record { due = a.due; notes = a.notes; outcomes = a.outcomes; answers = a.answers }

-- and that of the world with them
abbrev pub boxed : Unboxed → Actor
boxed a = record { due = a.due; notes = a.notes; outcomes = a.outcomes; answers = a.answers; parked = None }

-- these devices alone
abbrev pub bare : (tick : ℕ) → List Device → Shared
bare tick ds = record { devices = ds; boxes = []; tick = tick }

-- ---- laws

-- Without mailboxes every event is a turn, and no program waits.
abbrev pub NoneWaits : Type 0
NoneWaits =
    (programs : List Program) (detaches : List Detach) (number : ℕ) (actors actors' : List Actor) (sh sh' : Shared) (lines : List Line)
    → sh.boxes ≡ [] → All IsAwake actors → Plays programs detaches number actors sh lines actors' sh'
    → TakesTurn programs detaches number actors sh lines actors' sh' × (sh'.boxes ≡ []) × All IsAwake actors'

-- So its events are those of the world without mailboxes,
abbrev pub EventsAreUnboxed : Type 0
EventsAreUnboxed =
    (programs : List Program) (detaches : List Detach) (number : ℕ) (actors last : List Actor) (sh sh' : Shared) (lines : List Line)
    → sh.boxes ≡ [] → All IsAwake actors → Events programs detaches number actors sh lines last sh'
    → UnboxedEvents programs detaches number (map unboxed actors) sh.devices lines (map unboxed last) sh'.devices × (sh'.boxes ≡ []) × All IsAwake last

-- whose events are its own.
abbrev pub UnboxedEventsAre : Type 0
UnboxedEventsAre =
    (programs : List Program) (detaches : List Detach) (number tick : ℕ) (actors last : List Unboxed) (ds ds' : List Device) (lines : List Line)
    → UnboxedEvents programs detaches number actors ds lines last ds'
    → (after : ℕ) × Events programs detaches number (map boxed actors) (bare tick ds) lines (map boxed last) (bare after ds')

-- And so are its runs, of the protocol world
abbrev pub WorldsWithoutBoxes : Type 0
WorldsWithoutBoxes =
    (begun : ℕ) (programs : List Program) (detaches : List Detach) (ds ds' : List Device) (lines : List Line)
    → UnboxedWorldFrom begun programs detaches ds lines ds' ↔ ProtocolWorldFrom begun programs detaches [] ds lines ds'

-- and of the blocking world.
abbrev pub BlockingWithoutBoxes : Type 0
BlockingWithoutBoxes =
    (originals : List Original) (detaches : List Detach) (ds ds' : List Device) (lines : List Line)
    → UnboxedBlocking originals detaches ds lines ds' ↔ BlockingWorld originals detaches [] ds lines ds'
