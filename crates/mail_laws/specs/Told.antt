-- A world with mailboxes as it is told, turn by turn: what a program will be sent isn't known before it is.
use Rattle.std.specs.Prelude.{◌≡◌, ℕ, zero, suc, ◌+◌, ◌<◌, ◌≤◌, ◌^◌, ◌⊎◌, ◌||◌, List, [], ◌∷◌, ◌++◌, length, map, Option, Some, None, Bool, true, false, MatchBool, slice_get, slice_set}
use Rattle.std.specs.List.{AllZip}
use Rattle.std.specs.Option.{option_map, unwrap_or}
use Rattle.wa_types.specs.declared.values.Value.TheVariants as V
use Rattle.wa_model.specs.declared.answers.Detach.{Detach}
use Rattle.wa_model.specs.declared.events.End.TheVariants.{Stalled}
use Rattle.wa_model.specs.Outside.{AnswerLine, Event, Line, ended}
use Rattle.wa_model.specs.Plan.{Outcome}
use Rattle.wa_model.specs.Blocking.{Note, events_of}
use Rattle.wa_model.specs.Behaves.{IsPrefix}
use Rattle.world_model.specs.World.{Device, Program, answers_from, detached, due_from, ends_turn, events_with_looks, is_end, line_at, look_events, put_off}
use Rattle.mailbox_device.specs.declared.mailbox.Settled.{Settled}
use Rattle.mailbox_device.specs.Mail.{Box, at_box, awaited, empty_box}
use Rattle.mail_laws.specs.Mailboxes.{CallsMeet, Mailbox, Midst, Receive, Shared, Waiting, mailed}
use Rattle.mail_laws.specs.MailWorld.{Actor, HeldStory, ProtocolWorldFrom, begins_over, parks, store_behind, told_pause}
use Rattle.mail_laws.specs.Played.{ProtocolWorldUpToFrom}

-- ---- what is known of mailboxes, whose programs that wait are numbers alone

-- A receive at an empty mailbox: the import, and the mailbox's name.
pub record Await : Type 0 where
  pub import : ℕ
  pub box : List ℕ

-- What the programs share between events.
pub record Common : Type 0 where
  pub devices : List Device
  pub boxes : List Box
  pub tick : ℕ

-- The same in the midst of an event.
pub record Amid : Type 0 where
  pub devices : List Device
  pub boxes : List Box
  pub settled : List Settled
  pub receive : Option Await

-- ---- promises: for each program the value that it will be sent, where it waits

-- a program that waits, with its promise
abbrev pub promise : (will : ℕ → ℕ) → (program : ℕ) → Waiting
promise will i = record { program = i; value = will i }

-- a mailbox, where each program that waits will be sent what is promised
abbrev pub promised : (will : ℕ → ℕ) → Box → Mailbox
promised will b = record { name = b.name; values = b.values; waits = map (promise will) b.waits }

-- a receive that will be answered by this
abbrev pub receive_of : (value : ℕ) → Await → Receive
receive_of value r = record { import = r.import; box = r.box; value = value }

-- what is shared, with promises
abbrev pub shared_by : (will : ℕ → ℕ) → Common → Shared
shared_by will c = record { devices = c.devices; boxes = map (promised will) c.boxes; tick = c.tick }

-- the number of a program that was sent a value
abbrev pub number_of : Settled → ℕ
number_of s = s.program

-- the same in the midst of a turn of this program
abbrev pub midst_by : (will : ℕ → ℕ) → (program : ℕ) → Amid → Midst
midst_by will i m =
    record { devices = m.devices; boxes = map (promised will) m.boxes; settled = map number_of m.settled; receive = option_map (receive_of (will i)) m.receive }

-- the outcome that a receive at an empty mailbox meets
abbrev pub pending : (value : ℕ) → Option Await → List Outcome
pending value None = []
pending value (Some r) = mailed (Some (V.I32 value)) 1 ∷ []

-- each program that was sent a value was promised that
abbrev pub KeepsPromises : (will : ℕ → ℕ) → List Settled → Type 0
KeepsPromises will [] = Unit {0}
KeepsPromises will (s ∷ ss) = (will s.program ≡ s.value) × KeepsPromises will ss

-- ---- what is known of a program

-- The tick at which it is due, whether it has ended, its answer lines left, the notes that it has told, the outcomes that its
-- calls met, and its receive that wasn't answered: unless it has ended, it waits there.
pub record Teller : Type 0 where
  pub due : ℕ
  pub has_ended : Bool
  pub answers : List AnswerLine
  pub told : List Note
  pub met : List Outcome
  pub receive : Option Await

-- a program that has told nothing yet
abbrev pub starting : Program → Teller
starting w = record { due = due_from w.origin; has_ended = begins_over w; answers = answers_from w.answers w.origin; told = []; met = []; receive = None }

-- nothing once all is over
abbrev pub if_going : {X : Type 0} → Bool → Option X → Option X
if_going true o = None
if_going false o = o

-- where it waits: nowhere once it has ended
abbrev pub waits_at : Teller → Option Await
waits_at t = if_going t.has_ended t.receive

-- a tick, unless it waits
abbrev pub unless_waiting : Option Await → ℕ → Option ℕ
unless_waiting None due = Some due
unless_waiting (Some r) due = None

-- when it is due: not while it waits, and never once it has ended
abbrev pub due_of : Teller → Option ℕ
due_of t = if_going t.has_ended (unless_waiting t.receive t.due)

-- The least pair of due tick and number among the programs that are due.
pub record IsLeast (dues : List (Option ℕ)) (program due : ℕ) : Type 0 where
  pub there : slice_get dues program ≡ Some (Some due)
  pub least : (other tick : ℕ) → slice_get dues other ≡ Some (Some tick) → (due < tick) ⊎ ((due ≡ tick) × (program ≤ other))

-- no program is due
abbrev pub NoneDue : List (Option ℕ) → Type 0
NoneDue dues = (program due : ℕ) → slice_get dues program ≡ Some (Some due) → ⊥

-- the last note ends a turn, and no other does
abbrev pub EndsOnce : List Note → Type 0
EndsOnce [] = ⊥
EndsOnce (x ∷ xs) = MatchBool (ends_turn x.event) (xs ≡ []) (EndsOnce xs)

-- no note ends a turn
abbrev pub Unended : List Note → Type 0
Unended [] = Unit {0}
Unended (x ∷ xs) = (ends_turn x.event ≡ false) × Unended xs

-- one of these notes is an end
abbrev pub ends_program : List Note → Bool
ends_program [] = false
ends_program (x ∷ xs) = is_end x.event || ends_program xs

-- the program once it has told a turn, whose calls met these outcomes and left these answer lines and this receive
abbrev pub having_told : Teller → List Note → List Outcome → List AnswerLine → Option Await → Teller
having_told t turn met answers receive =
    record { due = t.due + put_off turn; has_ended = ends_program turn; answers = answers; told = t.told ++ turn; met = t.met ++ met; receive = receive }

-- the program once it was sent a value
abbrev pub having_got : (due value : ℕ) → Teller → Teller
having_got due value t =
    record { due = due; has_ended = t.has_ended; answers = t.answers; told = t.told; met = t.met ++ mailed (Some (V.I32 value)) 1 ∷ []; receive = None }

-- no program
abbrev pub no_teller : Teller
no_teller = record { due = 0; has_ended = true; answers = []; told = []; met = []; receive = None }

-- those that were sent a value have got it
abbrev pub settle_all : (due : ℕ) → List Settled → List Teller → List Teller
settle_all due [] tellers = tellers
settle_all due (s ∷ ss) tellers = settle_all due ss (slice_set tellers s.program (having_got due s.value (unwrap_or (slice_get tellers s.program) no_teller)))

-- ---- mailboxes on the way

-- a program isn't among those that were sent a value
abbrev pub NotAmong : (program : ℕ) → List Settled → Type 0
NotAmong i [] = Unit {0}
NotAmong i (s ∷ ss) = (i ≡ s.program → ⊥) × NotAmong i ss

-- A program waits.
pub record IsWaiting (tellers : List Teller) (program : ℕ) : Type 0 where
  pub t : Teller
  pub r : Await
  pub there : slice_get tellers program ≡ Some t
  pub unfinished : t.has_ended ≡ false
  pub waits : t.receive ≡ Some r

-- each program that is sent a value waited, and is sent one
abbrev pub AreSent : List Teller → List Settled → Type 0
AreSent tellers [] = Unit {0}
AreSent tellers (s ∷ ss) = IsWaiting tellers s.program × (s.value < 2 ^ 32) × NotAmong s.program ss × AreSent tellers ss

-- none of these programs was sent a value
abbrev pub NoneAmong : List ℕ → List Settled → Type 0
NoneAmong [] ss = Unit {0}
NoneAmong (i ∷ is) ss = NotAmong i ss × NoneAmong is ss

-- who waits at a mailbox wasn't
abbrev pub StillWait : List Box → List Settled → Type 0
StillWait [] ss = Unit {0}
StillWait (b ∷ bs) ss = NoneAmong b.waits ss × StillWait bs ss

-- with a program behind those that wait at the first mailbox of a name
abbrev pub waiting_in : (program : ℕ) → (name : List ℕ) → List Box → List Box
waiting_in i name boxes = at_box (awaited i) name boxes

-- the same where it parks
abbrev pub parked_in : (program : ℕ) → Option Await → List Box → List Box
parked_in i None boxes = boxes
parked_in i (Some r) boxes = waiting_in i r.box boxes

-- what is shared when the event of this number begins
abbrev pub begun_amid : (number : ℕ) → List Detach → Common → Amid
begun_amid number detaches c = record { devices = detached number detaches c.devices; boxes = c.boxes; settled = []; receive = None }

-- ---- events

-- Event number `number`: the detaches with its number come first, then the program that is due with the least pair of due tick
-- and number tells a turn. Its calls meet what they do whatever is promised to those that go on waiting.
pub record TellsTurn (programs : List Program) (detaches : List Detach) (number : ℕ) (tellers : List Teller) (c : Common) (lines : List Line) (tellers' : List Teller)
    (c' : Common) : Type 0 where
  pub i : ℕ
  pub w : Program
  pub t : Teller
  pub program : slice_get programs i ≡ Some w
  pub there : slice_get tellers i ≡ Some t
  pub next : IsLeast (map due_of tellers) i t.due
  pub turn : List Note
  pub whole : EndsOnce turn
  pub met : List Outcome
  pub answers : List AnswerLine
  pub behind : Amid
  pub calls : (will : ℕ → ℕ) → ((j : ℕ) → will j < 2 ^ 32) → KeepsPromises will behind.settled
      → CallsMeet w turn (met ++ pending (will i) behind.receive) t.answers (midst_by will i (begun_amid number detaches c)) [] answers (midst_by will i behind)
  pub sent : AreSent tellers behind.settled
  pub still : StillWait behind.boxes behind.settled
  pub made : lines ≡ map (λ (e : Event). line_at t.due i (told_pause (parks turn behind.receive) e)) (events_with_looks w.looks turn)
  pub after : tellers' ≡ settle_all (suc t.due) behind.settled (slice_set tellers i (having_told t turn met answers behind.receive))
  pub common : c' ≡ record { devices = behind.devices; boxes = parked_in i (parks turn behind.receive) behind.boxes; tick = t.due }

-- None is due: the first that waits ends there.
pub record TellsStall (programs : List Program) (detaches : List Detach) (number : ℕ) (tellers : List Teller) (c : Common) (lines : List Line) (tellers' : List Teller)
    (c' : Common) : Type 0 where
  pub i : ℕ
  pub w : Program
  pub t : Teller
  pub r : Await
  pub program : slice_get programs i ≡ Some w
  pub there : slice_get tellers i ≡ Some t
  pub waits : waits_at t ≡ Some r
  pub none_due : NoneDue (map due_of tellers)
  pub first : (j : ℕ) (u : Teller) (q : Await) → slice_get tellers j ≡ Some u → waits_at u ≡ Some q → i ≤ j
  pub made : lines ≡ map (line_at c.tick i) (ended (Stalled r.import) ∷ look_events (store_behind t.told) w.looks)
  pub after : tellers' ≡ slice_set tellers i (record t { has_ended = true })
  pub common : c' ≡ record c { devices = detached number detaches c.devices }

-- A turn, or the end of one that waits.
pub data TellsEvent (programs : List Program) (detaches : List Detach) (number : ℕ) (tellers : List Teller) (c : Common) (lines : List Line) (tellers' : List Teller)
    (c' : Common) : Type 0 where
  tells_turn : TellsTurn programs detaches number tellers c lines tellers' c' → TellsEvent programs detaches number tellers c lines tellers' c'
  tells_stall : TellsStall programs detaches number tellers c lines tellers' c' → TellsEvent programs detaches number tellers c lines tellers' c'

-- these devices and empty mailboxes of these names
abbrev pub opening : (boxes : List (List ℕ)) → List Device → Common
opening boxes ds = record { devices = ds; boxes = map empty_box boxes; tick = 0 }

-- so many events, behind others
abbrev pub Tells : (begun : ℕ) → List Program → List Detach → (boxes : List (List ℕ)) → List Device → (count : ℕ) → List Line → List Teller → Common → Type 0
Tells begun programs detaches boxes ds zero lines tellers c = (lines ≡ []) × (tellers ≡ map starting programs) × (c ≡ opening boxes ds)
Tells begun programs detaches boxes ds (suc count) lines tellers c =
    (before more : List Line) × (mid : List Teller) × (z : Common)
    × Tells begun programs detaches boxes ds count before mid z × TellsEvent programs detaches (suc (begun + count)) mid z more tellers c × (lines ≡ before ++ more)

-- Behind so many whole events the program that is due with the least pair of due tick and number has told notes of its turn, and none that ends it. Its
-- calls meet what they do whatever is promised to those that go on waiting, and those that were sent a value have got it.
pub record TellsBeginning (begun : ℕ) (programs : List Program) (detaches : List Detach) (boxes : List (List ℕ)) (ds : List Device) (count : ℕ) (lines : List Line)
    (tellers : List Teller) : Type 0 where
  pub before : List Line
  pub mid : List Teller
  pub c : Common
  pub whole : Tells begun programs detaches boxes ds count before mid c
  pub i : ℕ
  pub w : Program
  pub t : Teller
  pub program : slice_get programs i ≡ Some w
  pub there : slice_get mid i ≡ Some t
  pub next : IsLeast (map due_of mid) i t.due
  pub turn : List Note
  pub unended : Unended turn
  pub met : List Outcome
  pub answers : List AnswerLine
  pub behind : Amid
  pub calls : (will : ℕ → ℕ) → ((j : ℕ) → will j < 2 ^ 32) → KeepsPromises will behind.settled
      → CallsMeet w turn (met ++ pending (will i) behind.receive) t.answers (midst_by will i (begun_amid (suc (begun + count)) detaches c)) [] answers (midst_by will i behind)
  pub sent : AreSent mid behind.settled
  pub made : lines ≡ before ++ map (line_at t.due i) (events_of turn)
  pub after : tellers ≡ settle_all (suc t.due) behind.settled (slice_set mid i (having_told t turn met answers behind.receive))

-- ---- stories

-- what is still to be told: nothing exactly where the program has ended, and anything where it waits
abbrev pub IsRest : Bool → Option Await → List Note → Type 0
IsRest true receive rest = rest ≡ []
IsRest false None rest = 0 < length rest
IsRest false (Some r) rest = Unit {0}

-- What a program has told begins its story, for some outcomes that later calls may meet, and some value for the receive that
-- wasn't answered. The story of a program that waits, or stalled, may end there.
pub record HasStory (w : Program) (t : Teller) : Type 0 where
  pub value : ℕ
  pub small : value < 2 ^ 32
  pub rest : List Note
  pub more : List Outcome
  pub story : HeldStory w (t.met ++ pending value t.receive ++ more) (t.told ++ rest)
  pub is_rest : IsRest t.has_ended t.receive rest

-- all programs have ended
abbrev pub HaveEnded : List Teller → Type 0
HaveEnded tellers = (i : ℕ) (t : Teller) → slice_get tellers i ≡ Some t → t.has_ended ≡ true

-- What each program's calls have met, with some answer to its receive that wasn't answered, are the first outcomes of its actor.
abbrev pub HaveMet : List Teller → List Actor → Type 0
HaveMet tellers actors =
    (i : ℕ) (t : Teller) (a : Actor) → slice_get tellers i ≡ Some t → slice_get actors i ≡ Some a
    → (value : ℕ) × (value < 2 ^ 32) × IsPrefix (t.met ++ pending value t.receive) a.outcomes

-- ---- laws

-- Turns that were told one after another are a world played up to that event, where what each program has told begins its story;
abbrev pub ToldIsWorld : Type 0
ToldIsWorld =
    (begun : ℕ) (programs : List Program) (detaches : List Detach) (boxes : List (List ℕ)) (ds : List Device) (count : ℕ) (lines : List Line) (tellers : List Teller) (c : Common)
    → Tells begun programs detaches boxes ds count lines tellers c → AllZip HasStory programs tellers
    → ProtocolWorldUpToFrom begun programs detaches boxes ds (begun + count) lines c.devices

-- once all programs have ended, they are a whole run of the world, whose calls meet what the programs' calls have met;
abbrev pub AllToldIsWorld : Type 0
AllToldIsWorld =
    (begun : ℕ) (programs : List Program) (detaches : List Detach) (boxes : List (List ℕ)) (ds : List Device) (count : ℕ) (lines : List Line) (tellers : List Teller) (c : Common)
    → Tells begun programs detaches boxes ds count lines tellers c → AllZip HasStory programs tellers → HaveEnded tellers
    → (world : ProtocolWorldFrom begun programs detaches boxes ds lines c.devices) × HaveMet tellers world.actors

-- and up to whatever event they were told, the world goes on to an end, with calls that meet first what the programs' calls have met.
abbrev pub ToldGoesOn : Type 0
ToldGoesOn =
    (begun : ℕ) (programs : List Program) (detaches : List Detach) (boxes : List (List ℕ)) (ds : List Device) (count : ℕ) (lines : List Line) (tellers : List Teller) (c : Common)
    → Tells begun programs detaches boxes ds count lines tellers c → AllZip HasStory programs tellers
    → (more : List Line) × (last : List Device) × (world : ProtocolWorldFrom begun programs detaches boxes ds (lines ++ more) last) × HaveMet tellers world.actors

-- With the beginning of the next turn it does so too.
abbrev pub BegunGoesOn : Type 0
BegunGoesOn =
    (begun : ℕ) (programs : List Program) (detaches : List Detach) (boxes : List (List ℕ)) (ds : List Device) (count : ℕ) (lines : List Line) (tellers : List Teller)
    → TellsBeginning begun programs detaches boxes ds count lines tellers → AllZip HasStory programs tellers
    → (more : List Line) × (last : List Device) × (world : ProtocolWorldFrom begun programs detaches boxes ds (lines ++ more) last) × HaveMet tellers world.actors
