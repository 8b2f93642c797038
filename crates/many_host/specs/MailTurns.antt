-- A world with mailboxes as it is told, note by note: so many whole events, and the beginning of the next turn.
use Rattle.std.specs.Prelude.{◌≡◌, ◌+◌, ◌<◌, ◌^◌, ℕ, suc, List, [], ◌++◌, ◌≤◌, map, count_by, nat_eq, All, Some, true, false, slice_get, slice_set}
use Rattle.std.specs.List.{find}
use Rattle.wa_model.specs.declared.answers.Detach.{Detach}
use Rattle.wa_model.specs.Outside.{AnswerLine, Line}
use Rattle.wa_model.specs.Plan.{Outcome}
use Rattle.wa_model.specs.Blocking.{Note, events_of}
use Rattle.world_model.specs.World.{Device, Program, line_at}
use Rattle.mailbox_device.specs.declared.mailbox.Settled.{Settled}
use Rattle.mailbox_device.specs.Mail.{Box, IsServed, is_box, names_of, waits_at_all}
use Rattle.mail_laws.specs.Mailboxes.{CallsMeet}
use Rattle.mail_laws.specs.MailWorld.{pauses}
use Rattle.mail_laws.specs.Told.{Amid, AreSent, Await, Common, IsLeast, KeepsPromises, StillWait, Teller, Tells, begun_amid, due_of, having_told, midst_by, pending, settle_all, waits_at}
use Rattle.many_host.specs.Notes.{GoesOn}

-- ---- who waits

-- A program of this number told its pause at a receive from the mailbox of this name, and nothing since: it waits there, or has stalled.
pub record WaitsThere (tellers : List Teller) (name : List ℕ) (program : ℕ) : Type 0 where
  pub t : Teller
  pub r : Await
  pub there : slice_get tellers program ≡ Some t
  pub receive : t.receive ≡ Some r
  pub box : r.box ≡ name
  pub paused : pauses t.told ≡ true

-- so does each that waits at one of these
abbrev pub AllWaitThere : List Teller → List Box → Type 0
AllWaitThere tellers boxes = All (λ (b : Box). All (WaitsThere tellers b.name) b.waits) boxes

-- how often a program is among those that were sent a value
abbrev pub times_sent : (program : ℕ) → List Settled → ℕ
times_sent program settled = count_by (λ (s : Settled). nat_eq program s.program) settled

-- In the midst of a turn the mailboxes have these names; the programs that wait at them did so where they wait, before the turn, and haven't ended; each
-- that waited before the turn waits still or was sent a value, once; and no value is queued where one waits, or where the turn's program received
-- and found none.
pub record MailStandsAmid (names : List (List ℕ)) (tellers : List Teller) (now : Amid) : Type 0 where
  pub names_are : names_of now.boxes ≡ names
  pub waiting : AllWaitThere tellers now.boxes
  pub served : All IsServed now.boxes
  pub once : (i : ℕ) → waits_at_all i now.boxes + times_sent i now.settled ≤ 1
  pub paused : (i : ℕ) (t : Teller) (r : Await) → slice_get tellers i ≡ Some t → waits_at t ≡ Some r → pauses t.told ≡ true
  pub each : (i : ℕ) (t : Teller) (r : Await) → slice_get tellers i ≡ Some t → t.receive ≡ Some r → pauses t.told ≡ true → waits_at_all i now.boxes + times_sent i now.settled ≡ 1
  pub live : (i : ℕ) (t : Teller) → slice_get tellers i ≡ Some t → 0 < waits_at_all i now.boxes → t.has_ended ≡ false
  pub empty : (r : Await) → now.receive ≡ Some r → (b : Box) × (find (is_box r.box) now.boxes ≡ Some b) × (b.values ≡ [])

-- ---- a turn on its way

-- Behind so many whole events the program of this place, which was due at this tick, tells the next: it has told notes of it, and none
-- that ends it. The detaches with the event's number came before, and this is what the programs share then. Its calls meet what they do
-- whatever is promised to those that go on waiting, and those that were sent a value have got it. (Other events had begun before all of these.)
pub record TellsOnFrom (begun : ℕ) (programs : List Program) (detaches : List Detach) (boxes : List (List ℕ)) (ds : List Device) (count i due : ℕ) (lines : List Line) (tellers : List Teller)
    (now : Amid) : Type 0 where
  pub before : List Line
  pub mid : List Teller
  pub c : Common
  pub whole : Tells begun programs detaches boxes ds count before mid c
  pub w : Program
  pub t : Teller
  pub program : slice_get programs i ≡ Some w
  pub there : slice_get mid i ≡ Some t
  pub due_is : t.due ≡ due
  pub next : IsLeast (map due_of mid) i due
  pub turn : List Note
  pub goes_on : GoesOn turn
  pub met : List Outcome
  pub answers : List AnswerLine
  pub calls : (will : ℕ → ℕ) → ((j : ℕ) → will j < 2 ^ 32) → KeepsPromises will now.settled
      → CallsMeet w turn (met ++ pending (will i) now.receive) t.answers (midst_by will i (begun_amid (suc (begun + count)) detaches c)) [] answers (midst_by will i now)
  pub sent : AreSent mid now.settled
  pub still : StillWait now.boxes now.settled
  pub stands : MailStandsAmid boxes mid now
  pub made : lines ≡ before ++ map (line_at due i) (events_of turn)
  pub after : tellers ≡ settle_all (suc due) now.settled (slice_set mid i (having_told t turn met answers now.receive))
