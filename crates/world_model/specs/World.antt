-- Several programs over one list of devices. A program's turn goes from one of its pauses to the next, or to its end.
use Rattle.std.specs.Prelude.{◌≡◌, ℕ, suc, ◌+◌, ◌-◌, ◌≤◌, ◌<◌, ◌^◌, ◌⊎◌, nat_lt, nat_le, nat_eq, ◌&&◌, if◌then◌else◌, List, [], ◌∷◌, ◌++◌, length, map, drop, take, Option, Some, None, Bool, true}
use Rattle.std.specs.Prelude.{false, All, MatchBool, slice_get, slice_set}
use Rattle.std.specs.List.{filter_map, list_any, AllZip}
use Rattle.std.specs.Option.{unwrap_or}
use Rattle.wa_types.specs.declared.values.Value.{Value}
use Rattle.wa_types.specs.declared.values.Value.TheVariants as V
use Rattle.wa_types.specs.declared.syntax.Import.{Import}
use Rattle.wa_types.specs.Syntax.{Module}
use Rattle.wa_types.specs.Memory.{bytes_at}
use Rattle.wa_types.specs.Modules.{imported_func}
use Rattle.wa_types.specs.Validity.{same_name}
use Rattle.wa_types.specs.Bounds.{Bound}
use Rattle.wa_types.specs.Pausing.{Settings, joined_name}
use Rattle.wa_model.specs.declared.answers.Detach.{Detach}
use Rattle.wa_model.specs.declared.answers.Said.TheVariants as S
use Rattle.wa_model.specs.declared.events.End.TheVariants.{NoAnswer, OtherImport, DeviceFault, NoDevice, StepsSpent}
use Rattle.wa_model.specs.Machine.{Ran, still}
use Rattle.wa_model.specs.Outside.{Answer, Call, AnswerLine, Event, called, paused, ended, shown, Line}
use Rattle.wa_model.specs.Store.{Store}
use Rattle.wa_model.specs.Plan.{Entry, Plan, Outcome, given, refused, ValueFits}
use Rattle.wa_model.specs.Blocking.{Note, note, events_of, Blocking}
use Rattle.wa_model.specs.Protocol.{Held, over, calling, rewinds, call_again, exports_of, held_continued, store_held, Protocol}
use Rattle.wa_model.specs.Behaves.{pause_stacks, expected_notes, without_pauses, IsMoment}

-- ---- devices

-- What a device answers: a value, where it has one, and ticks.
pub record Reply : Type 0 where
  pub value : Option Value
  pub ticks : ℕ

-- An answered call of a device: the import's base name, the arguments and the reply.
pub record Asked : Type 0 where
  pub base : List ℕ
  pub args : List Value
  pub reply : Reply

-- A device: its name, and the calls that it has answered, in order.
pub record Device : Type 0 where
  pub name : List ℕ
  pub journal : List Asked

-- a device has this name
abbrev pub is_named : List ℕ → Device → Bool
is_named name d = same_name d.name name

-- without the first device of a name
abbrev pub taken_out : List ℕ → List Device → List Device
taken_out name [] = []
taken_out name (d ∷ ds) = if is_named name d then ds else d ∷ taken_out name ds

-- the devices without the first of a name, where told
abbrev pub detached_if : Bool → List ℕ → List Device → List Device
detached_if true name ds = taken_out name ds
detached_if false name ds = ds

-- the devices when the event of this number begins: each detach with its number takes out the first of its name, in order
abbrev pub detached : (number : ℕ) → List Detach → List Device → List Device
detached number [] ds = ds
detached number (x ∷ xs) ds = detached number xs (detached_if (nat_eq x.before number) x.device ds)

-- with an answered call behind the journal of the first device of a name
abbrev pub journaled : List ℕ → Asked → List Device → List Device
journaled name call [] = []
journaled name call (d ∷ ds) =
    if is_named name d then record { name = d.name; journal = d.journal ++ call ∷ [] } ∷ ds else d ∷ journaled name call ds

-- ---- programs

-- The bytes that are shown of a memory after a program's end.
pub record Look : Type 0 where
  pub at : ℕ
  pub len : ℕ

-- A pause from which a program goes on: the tick at which it is due, the steps that it has used and the answer lines that it has taken
-- before, the number of the entry that runs, the import that waits, its answer, and the store.
pub record Halt : Type 0 where
  pub due : ℕ
  pub used : ℕ
  pub taken : ℕ
  pub entry : ℕ
  pub import : ℕ
  pub answer : Answer
  pub store : Store

-- Where a program of a world begins: at its start, at a pause, or behind its end, when there is nothing to come.
pub data Origin : Type 0 where
  at_start gone : Origin
  at_pause : (halt : Halt) → Origin

-- A program of a world: its module, what it is given, its number of steps, its answer lines, for each function import the
-- device to which it is bound, where there is one, what is shown of its memory, and where it begins.
pub record Program : Type 0 where
  pub source : Module
  pub plan : Plan
  pub steps : ℕ
  pub answers : List AnswerLine
  pub binds : List (Option (List ℕ))
  pub looks : List Look
  pub origin : Origin

-- a name, where its import is a function, of which the index of the type is told
abbrev pub name_if : List ℕ → Option ℕ → Option (List ℕ)
name_if name None = None
name_if name (Some sort) = Some name

-- the joined names of the function imports
abbrev pub import_names : Module → List (List ℕ)
import_names m = filter_map (λ (i : Import). name_if (joined_name i) (imported_func i.kind)) m.imports

-- the base names of the function imports
abbrev pub base_names : Module → List (List ℕ)
base_names m = filter_map (λ (i : Import). name_if i.base (imported_func i.kind)) m.imports

-- the name at a place
abbrev pub name_at : List (List ℕ) → ℕ → List ℕ
name_at names i = unwrap_or (slice_get names i) []

-- A program on its way: the tick at which it is due, the notes that it will make, the outcomes that its calls will meet, and
-- the answer lines left. One without notes has ended.
pub record Actor : Type 0 where
  pub due : ℕ
  pub notes : List Note
  pub outcomes : List Outcome
  pub answers : List AnswerLine

-- ---- what a new call meets

-- a bound import: without its device NoDevice; else the device is free to reply, which its journal keeps, or to fail
abbrev pub MeetsDevice : (import : ℕ) → (base name : List ℕ) → List Value → List Device → Outcome → List Device → Type 0
MeetsDevice import base name args ds o ds' =
    MatchBool (list_any (is_named name) ds)
    (((r : Reply) × ValueFits r.value × (r.ticks < 2 ^ 32) × (o ≡ given (record { said = S.Value r.value; pokes = []; ticks = r.ticks }))
    × (ds' ≡ journaled name (record { base = base; args = args; reply = r }) ds))
    ⊎ ((o ≡ refused (DeviceFault import)) × (ds' ≡ ds)))
    ((o ≡ refused (NoDevice import)) × (ds' ≡ ds))

-- an import that isn't bound: the next answer line, which has to have its name
abbrev pub MeetsLine : (import : ℕ) → (name : List ℕ) → List AnswerLine → Outcome → List AnswerLine → Type 0
MeetsLine import name [] o lines = (o ≡ refused (NoAnswer import)) × (lines ≡ [])
MeetsLine import name (l ∷ ls) o lines =
    MatchBool (same_name l.import name) ((o ≡ given l.answer) × (lines ≡ ls)) ((o ≡ refused (OtherImport import l.import)) × (lines ≡ l ∷ ls))

-- what an import meets by its binding: its device, where it is bound to one, else the next answer line
abbrev pub MeetsBound : Module → (import : ℕ) → List Value → Option (List ℕ) → List AnswerLine → List Device → Outcome → List AnswerLine → List Device → Type 0
MeetsBound m import args (Some name) lines ds o lines' ds' = MeetsDevice import (name_at (base_names m) import) name args ds o ds' × (lines' ≡ lines)
MeetsBound m import args None lines ds o lines' ds' = MeetsLine import (name_at (import_names m) import) lines o lines' × (ds' ≡ ds)

-- a call meets this outcome, and leaves these lines and devices
abbrev pub Meets : Program → (import : ℕ) → List Value → List AnswerLine → List Device → Outcome → List AnswerLine → List Device → Type 0
Meets w import args lines ds o lines' ds' = MeetsBound w.source import args (unwrap_or (slice_get w.binds import) None) lines ds o lines' ds'

-- ---- turns

-- a program's turn ends with it
abbrev pub ends_turn : Event → Bool
ends_turn (paused ticks used) = true
ends_turn (ended how) = true
ends_turn _ = false

-- the notes of a turn
abbrev pub turn_of : List Note → List Note
turn_of [] = []
turn_of (x ∷ xs) = if ends_turn x.event then x ∷ [] else x ∷ turn_of xs

-- the notes behind a turn
abbrev pub behind_turn : List Note → List Note
behind_turn [] = []
behind_turn (x ∷ xs) = if ends_turn x.event then xs else behind_turn xs

-- the call that an event tells
abbrev pub call_in : Event → Option Call
call_in (called call) = Some call
call_in _ = None

-- a new call meets the program's next outcome, and the rest goes on from what it leaves
abbrev pub NoteMeets : Program → Option Call → List Outcome → List AnswerLine → List Device → (List Outcome → List AnswerLine → List Device → Type 0) → Type 0
NoteMeets w None os lines ds rest = rest os lines ds
NoteMeets w (Some call) os lines ds rest =
    (o : Outcome) × (os' : List Outcome) × (lines' : List AnswerLine) × (ds' : List Device)
    × (os ≡ o ∷ os') × Meets w call.import call.args lines ds o lines' ds' × rest os' lines' ds'

-- each new call of a turn does
abbrev pub CallsMeet : Program → List Note → List Outcome → List AnswerLine → List Device → List Outcome → List AnswerLine → List Device → Type 0
CallsMeet w [] os lines ds os' lines' ds' = (os' ≡ os) × (lines' ≡ lines) × (ds' ≡ ds)
CallsMeet w (x ∷ xs) os lines ds os' lines' ds' = NoteMeets w (call_in x.event) os lines ds (λ o l d. CallsMeet w xs o l d os' lines' ds')

-- the ticks by which an event puts its program off: those of a pause
abbrev pub ticks_in : Event → ℕ
ticks_in (paused ticks used) = ticks
ticks_in _ = 0

-- the same of all notes of a turn
abbrev pub put_off : List Note → ℕ
put_off [] = 0
put_off (x ∷ xs) = ticks_in x.event + put_off xs

-- an event of the program of this number, at the tick at which it was due
abbrev pub line_at : (due number : ℕ) → Event → Line
line_at due number e = record { tick = due; program = number; event = e }

-- the bytes that are shown; none where there is no instance or they aren't all there
abbrev pub bytes_shown : List ℕ → Look → Option (List ℕ)
bytes_shown memory x = if nat_lt 0 (length memory) && nat_le (x.at + x.len) (length memory) then Some (bytes_at memory x.at x.len) else None

-- the events of looks, at this store
abbrev pub look_events : Store → List Look → List Event
look_events s looks = map (λ (x : Look). shown x.at (bytes_shown s.memory x)) looks

-- after Ended come the program's looks, at the store of that end
abbrev pub looks_after : List Look → Note → Event → List Event
looks_after looks x (ended how) = look_events x.store looks
looks_after looks x _ = []

-- the events of notes, with the looks behind an end
abbrev pub events_with_looks : List Look → List Note → List Event
events_with_looks looks [] = []
events_with_looks looks (x ∷ xs) = (x.event ∷ looks_after looks x x.event) ++ events_with_looks looks xs

-- the lines of a turn have the tick at which it began
abbrev pub turn_lines : (number : ℕ) → Program → Actor → List Line
turn_lines number w a = map (line_at a.due number) (events_with_looks w.looks (turn_of a.notes))

-- ---- the order of events

-- a program has notes that are still to come
abbrev pub HasNotes : Actor → Type 0
HasNotes a = 0 < length a.notes

-- the least pair of due tick and number among the unfinished programs
pub record IsNext (actors : List Actor) (i : ℕ) (a : Actor) : Type 0 where
  pub there : slice_get actors i ≡ Some a
  pub unfinished : HasNotes a
  pub least : (j : ℕ) (b : Actor) → slice_get actors j ≡ Some b → HasNotes b → (a.due < b.due) ⊎ ((a.due ≡ b.due) × (i ≤ j))

-- Event number `number`: the detaches with its number come first, then the next program makes a turn.
pub record Plays (programs : List Program) (detaches : List Detach) (number : ℕ) (actors : List Actor) (ds : List Device) (lines : List Line) (actors' : List Actor) (ds' : List Device) : Type 0 where
  pub i : ℕ
  pub a : Actor
  pub w : Program
  pub next : IsNext actors i a
  pub program : slice_get programs i ≡ Some w
  pub outcomes : List Outcome
  pub answers : List AnswerLine
  pub calls : CallsMeet w (turn_of a.notes) a.outcomes a.answers (detached number detaches ds) outcomes answers ds'
  pub made : lines ≡ turn_lines i w a
  pub after : actors' ≡ slice_set actors i (record { due = a.due + put_off (turn_of a.notes); notes = behind_turn a.notes; outcomes = outcomes; answers = answers })

-- Events in a row, numbered from `number` on, with the lines that they make.
pub data Events (programs : List Program) (detaches : List Detach) : (number : ℕ) → List Actor → List Device → List Line → List Actor → List Device → Type 0 where
  no_event : {number : ℕ} {actors : List Actor} {ds : List Device} → Events programs detaches number actors ds [] actors ds
  an_event : {number : ℕ} {actors actors' last : List Actor} {ds ds' end : List Device} {lines more all : List Line} → Plays programs detaches number actors ds lines actors' ds'
      → Events programs detaches (suc number) actors' ds' more last end → all ≡ lines ++ more → Events programs detaches number actors ds all last end

-- ---- what a program's notes are

-- a run that isn't over ends where its steps don't reach for the next reduction
abbrev pub unless_over : (steps : ℕ) → Held → List Note
unless_over steps (over s) = []
unless_over steps h = note (ended (StepsSpent steps)) (store_held h) ∷ []

-- the notes of such a run of a program with this number of steps
abbrev pub told_by : (steps : ℕ) → Ran Held Note → List Note
told_by steps r = r.events ++ unless_over steps r.last

-- where a run stands at a pause of an entry, with these outcomes to come: the stack is rewound next
abbrev pub halted_in : Module → Plan → Halt → List Outcome → Option Entry → Held
halted_in p plan x os None = over x.store
halted_in p plan x os (Some e) =
    calling (rewinds e x.import x.answer x.store) x.store (exports_of p).start_rewind (V.I32 plan.area.at ∷ []) call_again
    (record { number = x.entry; entries = drop (suc x.entry) plan.entries; outcomes = os })

-- the same of a plan's entries
abbrev pub halted : Module → Plan → Halt → List Outcome → Held
halted p plan x os = halted_in p plan x os (slice_get plan.entries x.entry)

-- by where the program begins: the run goes on from there, by the steps that it has left
abbrev pub story_from : Program → List Outcome → Origin → List Note
story_from w os at_start = told_by w.steps (Protocol w.source w.plan os w.steps)
story_from w os gone = []
story_from w os (at_pause x) = told_by w.steps (held_continued w.source w.plan (w.steps - x.used) (still (halted w.source w.plan x os)))

-- in the protocol world: those of the run under the protocol up to the program's number of steps
abbrev pub protocol_story : Program → List Outcome → List Note
protocol_story w os = story_from w os w.origin

-- an event is an end
abbrev pub is_end : Event → Bool
is_end (ended how) = true
is_end _ = false

-- The event of this place is within the program's steps for certain: the bound on the rewritten program's cost up to and
-- including it is at most their number.
abbrev pub IsCertain : Settings → Program → List Outcome → ℕ → Type 0
IsCertain s w os j =
    (c : ℕ) × (j < length (expected_notes w.source s w.plan os c)) × (Bound w.source c (pause_stacks (Blocking w.source w.plan os c).events) ≤ w.steps)

-- In the blocking world a program makes its expected notes up to its end, each within a cost of its number of steps; or it
-- ends as StepsSpent before one that isn't certain, and shows its memory at a moment of its run.
pub data BlockingStory (s : Settings) (w : Program) (os : List Outcome) : List Note → Type 0 where
  whole : (x : Note) (before notes : List Note) → notes ≡ expected_notes w.source s w.plan os w.steps → notes ≡ before ++ x ∷ [] → is_end x.event ≡ true → BlockingStory s w os notes
  spent : (j : ℕ) (before notes : List Note) (at : Store) → before ≡ take j (expected_notes w.source s w.plan os w.steps) → j ≤ length (expected_notes w.source s w.plan os w.steps)
      → All (λ (x : Note). is_end x.event ≡ false) before
      → (IsCertain s w os j → ⊥) → IsMoment w.source w.plan os w.steps (without_pauses (events_of before)) at → notes ≡ before ++ note (ended (StepsSpent w.steps)) at ∷ [] → BlockingStory s w os notes

-- ---- worlds

-- when a program is due that begins here
abbrev pub due_from : Origin → ℕ
due_from at_start = 0
due_from gone = 0
due_from (at_pause x) = x.due

-- the answer lines that it has left there
abbrev pub answers_from : List AnswerLine → Origin → List AnswerLine
answers_from lines at_start = lines
answers_from lines gone = []
answers_from lines (at_pause x) = drop x.taken lines

-- a program where it begins
pub record Starts (w : Program) (a : Actor) : Type 0 where
  pub due : a.due ≡ due_from w.origin
  pub answers : a.answers ≡ answers_from w.answers w.origin

-- a program where it begins in the protocol world
pub record StartsHeld (w : Program) (a : Actor) : Type 0 where
  pub starts : Starts w a
  pub story : a.notes ≡ protocol_story w a.outcomes

-- a program where it begins in the blocking world, which is its start
pub record StartsBlocking (s : Settings) (w : Program) (a : Actor) : Type 0 where
  pub origin : w.origin ≡ at_start
  pub starts : Starts w a
  pub story : BlockingStory s w a.outcomes a.notes

-- no program has notes left
abbrev pub IsOver : List Actor → Type 0
IsOver actors = All (λ (a : Actor). a.notes ≡ []) actors

-- A run of the protocol world over prepared modules, behind so many events: its lines, and the devices at its end.
pub record ProtocolWorldFrom (begun : ℕ) (programs : List Program) (detaches : List Detach) (ds : List Device) (lines : List Line) (ds' : List Device) : Type 0 where
  pub actors : List Actor
  pub last : List Actor
  pub starts : AllZip StartsHeld programs actors
  pub events : Events programs detaches (suc begun) actors ds lines last ds'
  pub over : IsOver last

-- from the first event on
abbrev pub ProtocolWorld : List Program → List Detach → List Device → List Line → List Device → Type 0
ProtocolWorld = ProtocolWorldFrom 0

-- A program of the blocking world, and its settings.
pub record Original : Type 0 where
  pub program : Program
  pub settings : Settings

-- an original at its start
abbrev pub StartsOriginal : Original → Actor → Type 0
StartsOriginal o a = StartsBlocking o.settings o.program a

-- A run of the blocking world over original modules.
pub record BlockingWorld (originals : List Original) (detaches : List Detach) (ds : List Device) (lines : List Line) (ds' : List Device) : Type 0 where
  pub actors : List Actor
  pub last : List Actor
  pub starts : AllZip StartsOriginal originals actors
  pub events : Events (map (λ (o : Original). o.program) originals) detaches 1 actors ds lines last ds'
  pub over : IsOver last
