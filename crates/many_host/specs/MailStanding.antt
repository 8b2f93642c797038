-- Several programs of a world with mailboxes, as they are held between two lines.
use Rattle.std.specs.Prelude.{◌≡◌, ◌<◌, ◌≤◌, ◌^◌, ℕ, suc, ◌+◌, List, [], ◌∷◌, ◌++◌, All, length, map, drop, if◌then◌else◌, nat_eq, Option, Some, None, Bool, true, false, IsSome, MatchOption, slice_get, slice_set}
use Rattle.std.specs.List.{find}
use Rattle.wa_types.specs.declared.values.Value.TheVariants as V
use Rattle.wa_model.specs.declared.answers.Detach.{Detach}
use Rattle.wa_model.specs.declared.events.Line.{Line as LineValue}
use Rattle.wa_model.specs.Outside.{AnswerLine, Call, Event, Line}
use Rattle.wa_model.specs.Plan.{Outcome}
use Rattle.wa_model.specs.View.{line_of}
use Rattle.wa_model.specs.Blocking.{Note}
use Rattle.world_model.specs.World.{Device, Program, call_in, line_at}
use Rattle.world_laws.specs.Originals.{new_calls}
use Rattle.event_order.specs.declared.shows.Show.{Show}
use Rattle.event_order.specs.declared.turns.Turn.{Turn}
use Rattle.event_order.specs.Left.{Counted}
use Rattle.event_order.specs.Looks.{looks_of}
use Rattle.mailbox_device.specs.declared.mailbox.Settled.{Settled}
use Rattle.mailbox_device.specs.Mail.{Box, IsOrderly, Mail, WaitsNowhere, at_box, awaited, is_box, names_of, waits_at_all}
use Rattle.mail_laws.specs.Mailboxes.{mailed}
use Rattle.mail_laws.specs.MailWorld.{begins_over, pauses, store_behind}
use Rattle.mail_laws.specs.Told.{Await, Common, HasStory, HaveEnded, NoneDue, Teller, Tells, due_of, ends_program, pending, starting, waits_at}
use Rattle.pause_host.specs.Mailing.{MailAnswers, amid_of}
use Rattle.pause_host.specs.Programs.{Follows, StopsBehindReceive, lines_left, parked_in, receive_in}
use Rattle.many_host.specs.Calls.{devices_of, faults_of}
use Rattle.many_host.specs.Hosts.{has_ended, memory_of}
use Rattle.many_host.specs.MailTurns.{AllWaitThere, TellsOnFrom}
use Rattle.many_host.specs.Standing as S
use Rattle.many_host.specs.Standing.{Held, held_of, looks_at}
use Rattle.many_host.specs.declared.hosted.Hosted.{Hosted}
use Rattle.many_host.specs.declared.turn_taking.Stage.{Stage}
use Rattle.many_host.specs.declared.turn_taking.Stage.TheVariants.{Between, Telling, Showing}
use Rattle.many_host.specs.declared.turn_taking.Turns.{Turns}

-- What the calls of a program met as far as it is known: for a receive that wasn't answered a zero stands.
abbrev pub met_so_far : Teller → List Outcome
met_so_far t = t.met ++ pending 0 t.receive

-- .. and with the answer that it got, or gets, to that receive
abbrev pub met_with : (value : ℕ) → Teller → List Outcome
met_with value t = t.met ++ pending value t.receive

-- a program has told these notes, its calls met these outcomes, these answer lines are left, and this is its receive that wasn't answered
abbrev pub follows : Hosted → Program → List Note → List Outcome → List AnswerLine → Option Await → Type 0
follows x w notes os answers receive =
    Follows w notes os x.program × (lines_left x.program ≡ answers) × (receive_in x.program ≡ receive) × StopsBehindReceive x.program

-- A program of a world is held so: it has told what the teller has, its calls met these outcomes, and it has ended where that has; its memory is that
-- of its last note, and its looks are its shows.
pub record IsHeld (shows : List Show) (i : ℕ) (w : Program) (t : Teller) (x : Hosted) : Type 0 where
  pub follow : follows x w t.told (met_so_far t) t.answers t.receive
  pub ended_is : has_ended x ≡ t.has_ended
  pub told_end : ends_program t.told ≡ t.has_ended
  pub as_many : new_calls t.told ≡ length (met_so_far t)
  pub memory_is : 0 < length t.told → memory_of x ≡ (store_behind t.told).memory
  pub looks : w.looks ≡ looks_of i shows
  pub live : begins_over w ≡ false

-- It stalled where it waited: its memory is that of its pause.
pub record HasStalled (shows : List Show) (i : ℕ) (w : Program) (t : Teller) (x : Hosted) : Type 0 where
  pub ended : t.has_ended ≡ true
  pub over_is : has_ended x ≡ true
  pub waited : (r : Await) × (t.receive ≡ Some r)
  pub story : HasStory w t
  pub memory_is : memory_of x ≡ (store_behind t.told).memory
  pub looks : w.looks ≡ looks_of i shows
  pub few_steps : w.steps ≤ 1000000000

-- A program of a world is held in one of these ways; or nothing is to come of it, and what is held in its place isn't parked.
pub data Holds (shows : List Show) (i : ℕ) (w : Program) (t : Teller) (x : Hosted) : Type 0 where
  on_its_way : IsHeld shows i w t x → Holds shows i w t x
  has_stalled : HasStalled shows i w t x → Holds shows i w t x
  has_gone : begins_over w ≡ true → t ≡ starting w → w.looks ≡ looks_of i shows → parked_in x.program ≡ None → Holds shows i w t x

-- some program is due
abbrev pub SomeDue : List Teller → Type 0
SomeDue tellers = (i due : ℕ) × (slice_get (map due_of tellers) i ≡ Some (Some due))

-- Between two lines the mailboxes have these names and nothing is settled; the programs that wait at them are exactly those that wait or have
-- stalled, each once and where it did; and as long as one is due none has stalled.
pub record MailStands (names : List (List ℕ)) (tellers : List Teller) (mail : Mail) : Type 0 where
  pub names_are : names_of mail.boxes ≡ names
  pub unsettled : mail.settled ≡ []
  pub waiting : AllWaitThere tellers mail.boxes
  pub once : IsOrderly mail.boxes
  pub each : (i : ℕ) (t : Teller) (r : Await) → slice_get tellers i ≡ Some t → waits_at t ≡ Some r → waits_at_all i mail.boxes ≡ 1
  pub stalled : (i : ℕ) (t : Teller) (r : Await) → slice_get tellers i ≡ Some t → t.receive ≡ Some r → pauses t.told ≡ true → waits_at_all i mail.boxes ≡ 1
  pub live : SomeDue tellers → (i : ℕ) (t : Teller) → slice_get tellers i ≡ Some t → 0 < waits_at_all i mail.boxes → t.has_ended ≡ false

-- what the programs share between two events
abbrev pub common_of : List Device → Mail → (last : ℕ) → Common
common_of ds mail last = record { devices = ds; boxes = mail.boxes; tick = last }

-- when programs are due: that of a turn on its way at its tick, be it that it waits behind the turn
abbrev pub dues_at : List Teller → Stage → List (Option ℕ)
dues_at tellers (Telling turn) = slice_set (map due_of tellers) turn.program (Some turn.due)
dues_at tellers _ = map due_of tellers

-- Behind so many events whole ones are told; or a turn has begun, whose program isn't parked; or whole ones but for what is still to be shown of a program's memory. The last
-- event had this tick.
abbrev pub StandsAtFrom : (begun : ℕ) → List Program → List Detach → (boxes : List (List ℕ)) → List Device → (count : ℕ) → List Line → List Teller → Held Hosted → (last : ℕ)
    → List Device → Mail → Stage → Type 0
StandsAtFrom begun programs detaches boxes ds count lines tellers h last ds' mail Between =
    Tells begun programs detaches boxes ds count lines tellers (common_of ds' mail last) × MailStands boxes tellers mail
StandsAtFrom begun programs detaches boxes ds count lines tellers h last ds' mail (Telling turn) =
    (number : ℕ) × (count ≡ suc number) × (t : Teller) × (slice_get tellers turn.program ≡ Some t)
    × (sent : List Settled) × (mail.settled ≡ [])
    × TellsOnFrom begun programs detaches boxes ds number turn.program turn.due lines tellers (amid_of ds' (record mail { settled = sent }) t.receive) × (last ≡ turn.due)
    × ((x : Hosted) → slice_get h.programs turn.program ≡ Some x → parked_in x.program ≡ None)
StandsAtFrom begun programs detaches boxes ds count lines tellers h last ds' mail (Showing turn from) =
    (x : Hosted) × (slice_get h.programs turn.program ≡ Some x)
    × Tells begun programs detaches boxes ds count (lines ++ map (line_at turn.due turn.program) (looks_at (memory_of x) (looks_of turn.program (drop from h.shows)))) tellers (common_of ds' mail last)
    × MailStands boxes tellers mail

-- Behind so many events these lines of a world of the programs with mailboxes of these names have been told, and these devices and mailboxes are
-- there.
pub record StandingFrom (begun : ℕ) (programs : List Program) (detaches : List Detach) (boxes : List (List ℕ)) (ds : List Device) (lines : List Line) (h : Held Hosted) (last : ℕ) (ds' : List Device)
    (mail : Mail) (stage : Stage) : Type 0 where
  pub tellers : List Teller
  pub wide : length tellers ≡ length programs
  pub as_many : length h.programs ≡ length programs
  pub each : (i : ℕ) (w : Program) (t : Teller) (x : Hosted) → slice_get programs i ≡ Some w → slice_get tellers i ≡ Some t → slice_get h.programs i ≡ Some x → Holds h.shows i w t x
  pub dues : h.dues ≡ dues_at tellers stage
  pub detaches_are : h.detaches ≡ detaches
  pub earlier_is : h.earlier ≡ begun
  pub count : ℕ
  pub begun_is : begun + count ≡ h.begun
  pub at : StandsAtFrom begun programs detaches boxes ds count lines tellers h last ds' mail stage

-- Behind some events lines of some world of programs have been told.
pub record IsTelling (h : Held Hosted) (last : ℕ) (ds' : List Device) (mail : Mail) (stage : Stage) : Type 0 where
  pub begun : ℕ
  pub programs : List Program
  pub detaches : List Detach
  pub boxes : List (List ℕ)
  pub devices : List Device
  pub lines : List Line
  pub stands : StandingFrom begun programs detaches boxes devices lines h last ds' mail stage

-- ---- the next line

-- What each program's calls have met is what they had, as it is known then, and those of the program of this number met these outcomes behind.
abbrev pub MeetMore : (program : ℕ) → List Outcome → (tellers tellers' : List Teller) → Type 0
MeetMore program met tellers tellers' =
    (i : ℕ) (t t' : Teller) → slice_get tellers i ≡ Some t → slice_get tellers' i ≡ Some t'
    → (value : ℕ) × (value < 2 ^ 32) × (met_so_far t' ≡ met_with value t ++ (if nat_eq i program then met else []))

-- What a new call takes of devices and mailboxes, or of the program's answer lines, or of what it waits for. (Who is sent a value by it goes on with
-- that at once.)
pub record CallTakes (w : Program) (c : Call) (met : List Outcome) (old new : List Counted) (mail mail' : Mail) : Type 0 where
  pub answers : List AnswerLine
  pub left : List AnswerLine
  pub before : Option Await
  pub behind : Option Await
  pub sent : List Settled
  pub outcome : Outcome
  pub met_is : met ≡ outcome ∷ []
  pub takes : MailAnswers w c (record { lines = answers; amid = amid_of (devices_of old) mail before; faults = faults_of old }) outcome
      (record { lines = left; amid = amid_of (devices_of new) (record mail' { settled = sent }) behind; faults = faults_of new })

-- Where the line tells a new call, that met this outcome, and left these devices and mailboxes; nothing else met one, or changed a device.
pub record TakesCall (programs : List Program) (line : Line) (met : List Outcome) (old new : List Counted) (mail mail' : Mail) : Type 0 where
  pub w : Program
  pub program : slice_get programs line.program ≡ Some w
  pub takes : MatchOption (call_in line.event) ((met ≡ []) × (new ≡ old)) (λ c. CallTakes w c met old new mail mail')

-- The host tells this line more; its call met these outcomes, and left these devices and mailboxes.
pub record TellsLineFrom (begun : ℕ) (programs : List Program) (detaches : List Detach) (boxes : List (List ℕ)) (ds : List Device) (lines : List Line) (tellers : List Teller) (old new : List Counted) (mail : Mail) (line : Line) (h : Held Hosted)
    (last : ℕ) (ds' : List Device) (mail' : Mail) (stage : Stage) : Type 0 where
  pub stands : StandingFrom begun programs detaches boxes ds (lines ++ line ∷ []) h last ds' mail' stage
  pub met : List Outcome
  pub meets : MeetMore line.program met tellers stands.tellers
  pub takes : TakesCall programs line met old new mail mail'

-- All programs have ended, which have told and met no more than they had, and all their looks are out; the devices are as they were.
pub record AllTold (begun : ℕ) (programs : List Program) (detaches : List Detach) (boxes : List (List ℕ)) (ds : List Device) (lines : List Line) (tellers : List Teller) (old new : List Counted)
    (h : Held Hosted) (last : ℕ) (ds' : List Device) (mail : Mail) : Type 0 where
  pub stands : StandingFrom begun programs detaches boxes ds lines h last ds' mail Between
  pub tellers_are : stands.tellers ≡ tellers
  pub have_ended : HaveEnded tellers
  pub kept : new ≡ old

-- One line more is told, by devices that were these or, where an event began with it, those that are left; or there is none more.
abbrev pub TellsNext : (begun : ℕ) → List Program → List Detach → (boxes : List (List ℕ)) → List Device → List Line → List Teller → (old left new : List Counted) → (mail : Mail) → Turns Hosted → List Device
    → (mail' : Mail) → Option LineValue → Type 0
TellsNext begun programs detaches boxes ds lines tellers old left new mail h ds' mail' result =
    MatchOption result (AllTold begun programs detaches boxes ds lines tellers old new (held_of h) h.last ds' mail')
    (λ line. TellsLineFrom begun programs detaches boxes ds lines tellers left new mail (line_of line) (held_of h) h.last ds' mail' h.stage)

-- all programs have ended: none is due, and none is parked
abbrev pub AllOver : Turns Hosted → Type 0
AllOver h = NoneDue h.dues.items × All (λ (x : Hosted). parked_in x.program ≡ None) h.programs.items

-- Of these programs the one at this place is the first that is parked.
pub record IsFirstParked (xs : List Hosted) (i : ℕ) : Type 0 where
  pub x : Hosted
  pub there : slice_get xs i ≡ Some x
  pub parked : IsSome (parked_in x.program)
  pub first : (j : ℕ) (y : Hosted) → slice_get xs j ≡ Some y → IsSome (parked_in y.program) → i ≤ j

-- ---- what an event leads to

-- when the program of a turn is due behind this event: not while it is parked
abbrev pub due_behind : (is_parked : Bool) → (due : ℕ) → Event → Option ℕ
due_behind true due e = None
due_behind false due e = S.due_behind due e

-- where the host then stands
abbrev pub stage_behind : (is_parked : Bool) → Turn → Event → Stage
stage_behind true turn e = Between
stage_behind false turn e = S.stage_behind turn e

-- The program can wait at the mailbox of this name, which is there and has no values.
pub record CanWait (program : ℕ) (name : List ℕ) (mail : Mail) : Type 0 where
  pub box : Box
  pub there : find (is_box name) mail.boxes ≡ Some box
  pub empty : box.values ≡ []
  pub nowhere : WaitsNowhere program mail.boxes

-- with a program that waits, where it does, at the mailbox of this name
abbrev pub with_waiting : (program : ℕ) → Option (List ℕ) → Mail → Mail
with_waiting program None mail = mail
with_waiting program (Some name) mail = record mail { boxes = at_box (awaited program) name mail.boxes }

-- ---- those that were sent a value

-- each of them is there and parked, whatever becomes of those before it
abbrev pub AreParked : List Settled → List Hosted → Type 0
AreParked [] xs = Unit {0}
AreParked (s ∷ ss) xs = (x : Hosted) × (slice_get xs s.program ≡ Some x) × IsSome (parked_in x.program) × ((x' : Hosted) → AreParked ss (slice_set xs s.program x'))

-- A program that was parked has got its value: what it told goes on by it.
pub record HasGot (value : ℕ) (x x' : Hosted) : Type 0 where
  pub parked : IsSome (parked_in x.program)
  pub follows : (w : Program) (notes : List Note) (os : List Outcome) → new_calls notes ≡ suc (length os)
      → Follows w notes (os ++ mailed (Some (V.I32 0)) 1 ∷ []) x.program → Follows w notes (os ++ mailed (Some (V.I32 value)) 1 ∷ []) x'.program
  pub awake : receive_in x'.program ≡ None
  pub memory_is : memory_of x' ≡ memory_of x
  pub lines : lines_left x'.program ≡ lines_left x.program

-- each of them has
abbrev pub HaveGot : List Settled → (xs xs' : List Hosted) → Type 0
HaveGot [] xs xs' = xs' ≡ xs
HaveGot (s ∷ ss) xs xs' = (x x' : Hosted) × (slice_get xs s.program ≡ Some x) × HasGot s.value x x' × HaveGot ss (slice_set xs s.program x') xs'

-- when they are due
abbrev pub dues_settled : (due : ℕ) → List Settled → List (Option ℕ) → List (Option ℕ)
dues_settled due [] dues = dues
dues_settled due (s ∷ ss) dues = dues_settled due ss (slice_set dues s.program (Some due))
