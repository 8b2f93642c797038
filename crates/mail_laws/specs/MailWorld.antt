-- Several programs over one list of devices, and over mailboxes. A program's turn goes from one of its pauses to the next, or to
-- its end; one that waits for a mailbox takes none until another program sends it a value.
use Rattle.std.specs.Prelude.{◌≡◌, ℕ, suc, ◌+◌, ◌≤◌, ◌<◌, ◌⊎◌, nat_eq, ◌&&◌, if◌then◌else◌, List, [], ◌∷◌, ◌++◌, length, map, Option, Some, None, Bool, true, false, All, is_none, slice_get, slice_set}
use Rattle.std.specs.List.{AllZip, list_any}
use Rattle.std.specs.Option.{unwrap_or}
use Rattle.wa_types.specs.Pausing.{Settings}
use Rattle.wa_model.specs.declared.answers.Detach.{Detach}
use Rattle.wa_model.specs.declared.events.End.TheVariants.{Stalled}
use Rattle.wa_model.specs.Outside.{AnswerLine, Event, Line, ended, parked, paused}
use Rattle.wa_model.specs.Store.{Store}
use Rattle.wa_model.specs.Plan.{Entry, Outcome}
use Rattle.wa_model.specs.Blocking.{Note, no_store}
use Rattle.wa_model.specs.Behaves.{expected_notes}
use Rattle.world_model.specs.World.{BlockingStory, Device, Origin, Original, Program, answers_from, at_pause, at_start, behind_turn, detached, due_from, events_with_looks, gone}
use Rattle.world_model.specs.World.{is_end, line_at, look_events, protocol_story, put_off, turn_of}
use Rattle.mail_laws.specs.Mailboxes.{CallsMeet, Mailbox, Midst, Receive, Shared, at_box, awaited, empty_box}

-- Where a program waits for a mailbox: its import, and the store.
pub record Parked : Type 0 where
  pub import : ℕ
  pub store : Store

-- A program on its way: the tick at which it is due, the notes that it will make, the outcomes that its calls will meet, the
-- answer lines left, and where it waits. One that has no notes and doesn't wait has ended.
pub record Actor : Type 0 where
  pub due : ℕ
  pub notes : List Note
  pub outcomes : List Outcome
  pub answers : List AnswerLine
  pub parked : Option Parked

-- no actor: it has ended
abbrev pub nobody : Actor
nobody = record { due = 0; notes = []; outcomes = []; answers = []; parked = None }

-- ---- turns

-- an event is a pause
abbrev pub is_pause : Event → Bool
is_pause (paused ticks used) = true
is_pause _ = false

-- the last of these notes is a pause
abbrev pub pauses : List Note → Bool
pauses [] = false
pauses (x ∷ []) = is_pause x.event
pauses (x ∷ y ∷ ys) = pauses (y ∷ ys)

module _ {X : Type 0} where
  -- the receive at which a turn parks its program: one at an empty mailbox, behind which it pauses
  abbrev pub parks : List Note → Option X → Option X
  parks turn receive = if pauses turn then receive else None

  -- a pause is told as parking, where it is
  abbrev pub told_pause : Option X → Event → Event
  told_pause (Some r) (paused ticks used) = parked used
  told_pause _ e = e

-- the lines of a turn have the tick at which it began
abbrev pub turn_lines : (number : ℕ) → Program → Actor → Option Receive → List Line
turn_lines number w a parking = map (λ (e : Event). line_at a.due number (told_pause parking e)) (events_with_looks w.looks (turn_of a.notes))

-- ---- the order of events

-- a program has notes that are still to come
abbrev pub HasNotes : Actor → Type 0
HasNotes a = 0 < length a.notes

-- It can go on: it has notes, and doesn't wait.
pub record IsReady (a : Actor) : Type 0 where
  pub unfinished : HasNotes a
  pub awake : a.parked ≡ None

-- the least pair of due tick and number among the programs that are ready
pub record IsNext (actors : List Actor) (i : ℕ) (a : Actor) : Type 0 where
  pub there : slice_get actors i ≡ Some a
  pub ready : IsReady a
  pub least : (j : ℕ) (b : Actor) → slice_get actors j ≡ Some b → IsReady b → (a.due < b.due) ⊎ ((a.due ≡ b.due) × (i ≤ j))

-- what is shared when the event of this number begins
abbrev pub begun_event : (number : ℕ) → List Detach → Shared → Midst
begun_event number detaches sh = record { devices = detached number detaches sh.devices; boxes = sh.boxes; settled = []; receive = None }

-- the store behind notes
abbrev pub store_behind : List Note → Store
store_behind [] = no_store
store_behind (x ∷ []) = x.store
store_behind (x ∷ y ∷ ys) = store_behind (y ∷ ys)

-- where a program waits that parks
abbrev pub parked_at : Store → Option Receive → Option Parked
parked_at s None = None
parked_at s (Some r) = Some (record { import = r.import; store = s })

-- with the program waiting at the mailbox of its receive, where it parks
abbrev pub with_waiting : (program : ℕ) → Option Receive → List Mailbox → List Mailbox
with_waiting program None boxes = boxes
with_waiting program (Some r) boxes = at_box (awaited (record { program = program; value = r.value })) r.box boxes

-- an actor that was sent its value is due again
abbrev pub woken : (due : ℕ) → Actor → Actor
woken due a = record a { due = due; parked = None }

-- those of these numbers are
abbrev pub wake : (due : ℕ) → List ℕ → List Actor → List Actor
wake due [] actors = actors
wake due (i ∷ is) actors = wake due is (slice_set actors i (woken due (unwrap_or (slice_get actors i) nobody)))

-- The next program makes a turn.
pub record TakesTurn (programs : List Program) (detaches : List Detach) (number : ℕ) (actors : List Actor) (sh : Shared) (lines : List Line) (actors' : List Actor) (sh' : Shared) : Type 0 where
  pub i : ℕ
  pub a : Actor
  pub w : Program
  pub next : IsNext actors i a
  pub program : slice_get programs i ≡ Some w
  pub outcomes : List Outcome
  pub answers : List AnswerLine
  pub behind : Midst
  pub calls : CallsMeet w (turn_of a.notes) a.outcomes a.answers (begun_event number detaches sh) outcomes answers behind
  pub made : lines ≡ turn_lines i w a (parks (turn_of a.notes) behind.receive)
  pub after : actors' ≡ wake (suc a.due) behind.settled (slice_set actors i (record {
    due = a.due + put_off (turn_of a.notes);
    notes = behind_turn a.notes;
    outcomes = outcomes;
    answers = answers;
    parked = parked_at (store_behind (turn_of a.notes)) (parks (turn_of a.notes) behind.receive);
  }))
  pub shared : sh' ≡ record { devices = behind.devices; boxes = with_waiting i (parks (turn_of a.notes) behind.receive) behind.boxes; tick = a.due }

-- No program is ready: the first that waits ends, at the tick of the event before.
pub record Stalls (programs : List Program) (detaches : List Detach) (number : ℕ) (actors : List Actor) (sh : Shared) (lines : List Line) (actors' : List Actor) (sh' : Shared) : Type 0 where
  pub i : ℕ
  pub a : Actor
  pub w : Program
  pub at : Parked
  pub there : slice_get actors i ≡ Some a
  pub program : slice_get programs i ≡ Some w
  pub waits : a.parked ≡ Some at
  pub no_more : a.notes ≡ []
  pub none_ready : (j : ℕ) (b : Actor) → slice_get actors j ≡ Some b → IsReady b → ⊥
  pub first : (j : ℕ) (b : Actor) (p : Parked) → slice_get actors j ≡ Some b → b.parked ≡ Some p → i ≤ j
  pub made : lines ≡ map (line_at sh.tick i) (ended (Stalled at.import) ∷ look_events at.store w.looks)
  pub after : actors' ≡ slice_set actors i (record a { parked = None })
  pub shared : sh' ≡ record sh { devices = detached number detaches sh.devices }

-- Event number `number`: the detaches with its number come first.
pub data Plays (programs : List Program) (detaches : List Detach) (number : ℕ) (actors : List Actor) (sh : Shared) (lines : List Line) (actors' : List Actor) (sh' : Shared) : Type 0 where
  a_turn : TakesTurn programs detaches number actors sh lines actors' sh' → Plays programs detaches number actors sh lines actors' sh'
  a_stall : Stalls programs detaches number actors sh lines actors' sh' → Plays programs detaches number actors sh lines actors' sh'

-- Events in a row, numbered from `number` on, with the lines that they make.
pub data Events (programs : List Program) (detaches : List Detach) : (number : ℕ) → List Actor → Shared → List Line → List Actor → Shared → Type 0 where
  no_event : {number : ℕ} {actors : List Actor} {sh : Shared} → Events programs detaches number actors sh [] actors sh
  an_event : {number : ℕ} {actors actors' last : List Actor} {sh sh' end : Shared} {lines more all : List Line} → Plays programs detaches number actors sh lines actors' sh'
      → Events programs detaches (suc number) actors' sh' more last end → all ≡ lines ++ more → Events programs detaches number actors sh all last end

-- ---- what a program's notes are

-- In the protocol world a program makes the notes of its run, or those up to one of its pauses. That it waits there for good is asked of
-- the world's lines (`EachEnds`, and `EndsAreTold` of a world up to an event).
pub data HeldStory (w : Program) (os : List Outcome) (notes : List Note) : Type 0 where
  to_end : notes ≡ protocol_story w os → HeldStory w os notes
  to_wait : (rest : List Note) → protocol_story w os ≡ notes ++ rest → pauses notes ≡ true → HeldStory w os notes

-- In the blocking world it makes what it makes without mailboxes, or its expected notes up to one of its pauses; `EachEnds` asks there too
-- that it waits for good.
pub data StoryOrCut (s : Settings) (w : Program) (os : List Outcome) (notes : List Note) : Type 0 where
  unblocked : BlockingStory s w os notes → StoryOrCut s w os notes
  waits : (cost : ℕ) (rest : List Note) → cost ≤ w.steps → expected_notes w.source s w.plan os cost ≡ notes ++ rest → pauses notes ≡ true → StoryOrCut s w os notes

-- ---- worlds

-- a program where it begins
pub record Starts (w : Program) (a : Actor) : Type 0 where
  pub due : a.due ≡ due_from w.origin
  pub answers : a.answers ≡ answers_from w.answers w.origin
  pub parked : a.parked ≡ None

-- a program where it begins in the protocol world
pub record StartsHeld (w : Program) (a : Actor) : Type 0 where
  pub starts : Starts w a
  pub story : HeldStory w a.outcomes a.notes

-- a program where it begins in the blocking world, which is its start
pub record StartsBlocking (s : Settings) (w : Program) (a : Actor) : Type 0 where
  pub origin : w.origin ≡ at_start
  pub starts : Starts w a
  pub story : StoryOrCut s w a.outcomes a.notes

-- a program has ended
pub record HasEnded (a : Actor) : Type 0 where
  pub no_notes : a.notes ≡ []
  pub awake : a.parked ≡ None

-- all have
abbrev pub IsOver : List Actor → Type 0
IsOver actors = All HasEnded actors

-- these devices and empty mailboxes of these names
abbrev pub sharing : (boxes : List (List ℕ)) → List Device → Shared
sharing boxes ds = record { devices = ds; boxes = map empty_box boxes; tick = 0 }

-- Events to the last one, behind so many, where these actors start.
pub record Runs (begun : ℕ) (programs : List Program) (detaches : List Detach) (boxes : List (List ℕ)) (actors : List Actor) (ds : List Device) (lines : List Line) (ds' : List Device) : Type 0 where
  pub last : List Actor
  pub shared : Shared
  pub events : Events programs detaches (suc begun) actors (sharing boxes ds) lines last shared
  pub over : IsOver last
  pub devices : ds' ≡ shared.devices

-- a line of the program of this number tells an end
abbrev pub tells_end : (number : ℕ) → List Line → Bool
tells_end i lines = list_any (λ (l : Line). nat_eq l.program i && is_end l.event) lines

-- a program that begins there has nothing to come: it was over, or no entry of its plan runs
abbrev pub over_at : List Entry → Origin → Bool
over_at entries at_start = false
over_at entries gone = true
over_at entries (at_pause x) = is_none (slice_get entries x.entry)

-- a program is over where it begins
abbrev pub begins_over : Program → Bool
begins_over w = over_at w.plan.entries w.origin

-- Each program that isn't over where it begins tells an end: one whose notes stop where it waits has stalled there.
abbrev pub EachEnds : List Program → List Line → Type 0
EachEnds programs lines = (i : ℕ) (w : Program) → slice_get programs i ≡ Some w → begins_over w ≡ false → tells_end i lines ≡ true

-- A run of the protocol world over prepared modules, behind so many events: its lines, and the devices at its end.
pub record ProtocolWorldFrom (begun : ℕ) (programs : List Program) (detaches : List Detach) (boxes : List (List ℕ)) (ds : List Device) (lines : List Line) (ds' : List Device) : Type 0 where
  pub actors : List Actor
  pub starts : AllZip StartsHeld programs actors
  pub runs : Runs begun programs detaches boxes actors ds lines ds'
  pub ends : EachEnds programs lines

-- from the first event on
abbrev pub ProtocolWorld : List Program → List Detach → (boxes : List (List ℕ)) → List Device → List Line → List Device → Type 0
ProtocolWorld = ProtocolWorldFrom 0

-- an original at its start
abbrev pub StartsOriginal : Original → Actor → Type 0
StartsOriginal o a = StartsBlocking o.settings o.program a

-- A run of the blocking world over original modules.
pub record BlockingWorld (originals : List Original) (detaches : List Detach) (boxes : List (List ℕ)) (ds : List Device) (lines : List Line) (ds' : List Device) : Type 0 where
  pub actors : List Actor
  pub starts : AllZip StartsOriginal originals actors
  pub runs : Runs 0 (map (λ (o : Original). o.program) originals) detaches boxes actors ds lines ds'
  pub ends : EachEnds (map (λ (o : Original). o.program) originals) lines
