-- Worlds with mailboxes that are played up to an event, and those of them that go on.
use Rattle.std.specs.Prelude.{◌≡◌, ◌≤◌, ℕ, zero, suc, ◌+◌, List, [], ◌++◌, Some, None, true, false, slice_get}
use Rattle.std.specs.List.{AllZip}
use Rattle.wa_model.specs.declared.answers.Detach.{Detach}
use Rattle.wa_model.specs.Outside.{Line}
use Rattle.world_model.specs.World.{Device, Program}
use Rattle.mail_laws.specs.Mailboxes.{Shared}
use Rattle.mail_laws.specs.MailWorld.{Actor, IsOver, Plays, ProtocolWorldFrom, StartsHeld, begins_over, sharing, tells_end}

-- So many events in a row, numbered from `number` on, with the lines that they make.
abbrev pub Played : List Program → List Detach → (number count : ℕ) → List Actor → Shared → List Line → List Actor → Shared → Type 0
Played programs detaches number zero actors sh lines actors' sh' = (lines ≡ []) × (actors' ≡ actors) × (sh' ≡ sh)
Played programs detaches number (suc count) actors sh lines actors' sh' =
    (first more : List Line) × (mid : List Actor) × (z : Shared)
    × Plays programs detaches number actors sh first mid z × Played programs detaches (suc number) count mid z more actors' sh' × (lines ≡ first ++ more)

-- A program that has no notes and doesn't wait has told an end, unless it is over where it begins: its notes were not cut before.
abbrev pub EndsAreTold : List Program → List Line → List Actor → Type 0
EndsAreTold programs lines actors =
    (i : ℕ) (w : Program) (a : Actor) → slice_get programs i ≡ Some w → slice_get actors i ≡ Some a → begins_over w ≡ false → a.notes ≡ [] → a.parked ≡ None → tells_end i lines ≡ true

-- A run of the protocol world that began behind so many events, up to the event of this number: its lines so far, and the devices
-- behind it.
pub record ProtocolWorldUpToFrom (begun : ℕ) (programs : List Program) (detaches : List Detach) (boxes : List (List ℕ)) (ds : List Device) (number : ℕ) (lines : List Line)
    (ds' : List Device) : Type 0 where
  pub actors : List Actor
  pub now : List Actor
  pub shared : Shared
  pub starts : AllZip StartsHeld programs actors
  pub count : ℕ
  pub numbered : number ≡ begun + count
  pub played : Played programs detaches (suc begun) count actors (sharing boxes ds) lines now shared
  pub devices : ds' ≡ shared.devices
  pub ends : EndsAreTold programs lines now

-- from the first event on
abbrev pub ProtocolWorldUpTo : List Program → List Detach → (boxes : List (List ℕ)) → List Device → (number : ℕ) → List Line → List Device → Type 0
ProtocolWorldUpTo = ProtocolWorldUpToFrom 0

-- ---- laws

-- Before its first event nothing has been made,
abbrev pub NoEvent : Type 0
NoEvent =
    (begun : ℕ) (programs : List Program) (detaches : List Detach) (boxes : List (List ℕ)) (ds : List Device) (actors : List Actor) → AllZip StartsHeld programs actors
    → (world : ProtocolWorldUpToFrom begun programs detaches boxes ds begun [] ds) × (world.now ≡ actors)

-- and each further event makes its lines behind the others, where behind it each program without notes has told its end or waits.
abbrev pub NextEvent : Type 0
NextEvent =
    (begun : ℕ) (programs : List Program) (detaches : List Detach) (boxes : List (List ℕ)) (ds ds' : List Device) (number : ℕ) (lines more : List Line) (next : List Actor) (sh : Shared)
    (world : ProtocolWorldUpToFrom begun programs detaches boxes ds number lines ds')
    → Plays programs detaches (suc number) world.now world.shared more next sh → EndsAreTold programs (lines ++ more) next
    → (on : ProtocolWorldUpToFrom begun programs detaches boxes ds (suc number) (lines ++ more) sh.devices) × (on.now ≡ next) × (on.shared ≡ sh)

-- A run up to an event behind which all programs have ended is a whole run.
abbrev pub PlayedIsWhole : Type 0
PlayedIsWhole =
    (begun : ℕ) (programs : List Program) (detaches : List Detach) (boxes : List (List ℕ)) (ds ds' : List Device) (number : ℕ) (lines : List Line)
    (world : ProtocolWorldUpToFrom begun programs detaches boxes ds number lines ds') → IsOver world.now → ProtocolWorldFrom begun programs detaches boxes ds lines ds'

-- A whole run has a last event; up to each event it is played, and its lines so far begin those of the whole.
abbrev pub WholeIsPlayed : Type 0
WholeIsPlayed =
    (begun : ℕ) (programs : List Program) (detaches : List Detach) (boxes : List (List ℕ)) (ds ds' : List Device) (lines : List Line)
    → ProtocolWorldFrom begun programs detaches boxes ds lines ds'
    → (last : ℕ) × (world : ProtocolWorldUpToFrom begun programs detaches boxes ds last lines ds') × IsOver world.now
    × ((number : ℕ) → begun ≤ number → number ≤ last
    → (first rest : List Line) × (es : List Device) × ProtocolWorldUpToFrom begun programs detaches boxes ds number first es × (lines ≡ first ++ rest))

-- Up to whatever event a world has been played, and whatever its devices have replied so far, it can be played on to an end.
abbrev pub WorldsGoOn : Type 0
WorldsGoOn =
    (begun : ℕ) (programs : List Program) (detaches : List Detach) (boxes : List (List ℕ)) (ds ds' : List Device) (number : ℕ) (lines : List Line)
    → ProtocolWorldUpToFrom begun programs detaches boxes ds number lines ds'
    → (more : List Line) × (last : List Device) × ProtocolWorldFrom begun programs detaches boxes ds (lines ++ more) last

-- So for any programs, detaches, mailboxes and devices there is a run that ends.
abbrev pub EachWorldEnds : Type 0
EachWorldEnds =
    (begun : ℕ) (programs : List Program) (detaches : List Detach) (boxes : List (List ℕ)) (ds : List Device)
    → (lines : List Line) × (last : List Device) × ProtocolWorldFrom begun programs detaches boxes ds lines last
