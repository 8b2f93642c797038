-- Several programs of a world, as they are held between two lines.
use Rattle.std.specs.Prelude.{◌≡◌, ◌≤◌, ◌<◌, ℕ, suc, ◌+◌, ◌-◌, ◌^◌, List, [], ◌∷◌, ◌++◌, ◌*◌, All, length, map, drop, Option, Some, None, Bool, true, false, MatchOption, slice_get}
use Rattle.wa_model.specs.declared.answers.Detach.{Detach}
use Rattle.wa_model.specs.declared.events.Line.{Line as LineValue}
use Rattle.wa_model.specs.Outside.{AnswerLine, Event, paused, ended, shown, Line}
use Rattle.wa_model.specs.Plan.{Outcome}
use Rattle.wa_model.specs.View.{line_of}
use Rattle.wa_model.specs.Blocking.{Note}
use Rattle.world_model.specs.World.{Device, Look, Program, bytes_shown, is_end, line_at, ticks_in}
use Rattle.event_order.specs.declared.shows.Show.{Show}
use Rattle.event_order.specs.declared.turns.Turn.{Turn}
use Rattle.event_order.specs.Dues.{HaveEnded}
use Rattle.event_order.specs.Left.{Counted}
use Rattle.event_order.specs.Looks.{looks_of}
use Rattle.many_host.specs.Calls.{TakesCall}
use Rattle.many_host.specs.Turns.{MeetMore, Teller, starting, unless, due_of, ends_program, is_gone, behind, since, TellsFrom}
use Rattle.many_host.specs.Notes.{TellsOnFrom}
use Rattle.many_host.specs.declared.turn_taking.Stage.{Stage}
use Rattle.many_host.specs.declared.turn_taking.Stage.TheVariants.{Between, Telling, Showing}
use Rattle.many_host.specs.declared.turn_taking.Turns.{Turns}

-- The programs, when each is due, the devices to be taken out, what is shown behind ends, how many turns have begun, and how many of them before
-- these programs were held.
pub record Held (X : Type 0) : Type 0 where
  pub programs : List X
  pub dues : List (Option ℕ)
  pub detaches : List Detach
  pub shows : List Show
  pub begun : ℕ
  pub earlier : ℕ

-- what is held
abbrev pub held_of : {X : Type 0} → Turns X → Held X
held_of h = record { programs = h.programs.items; dues = h.dues.items; detaches = h.detaches.items; shows = h.shows.items; begun = h.begun; earlier = h.earlier }

-- A program of a world is held so: something is to come of it from where it begins; it has told what the teller has, and has ended where that
-- has; its looks are its shows.
pub record IsHeld {X : Type 0} (follows : X → Program → List Note → List Outcome → List AnswerLine → Type 0) (over : X → Bool) (shows : List Show) (i : ℕ) (w : Program) (t : Teller)
    (x : X) : Type 0 where
  pub follow : follows x w t.told t.met t.answers
  pub ended_is : over x ≡ t.has_ended
  pub told_end : ends_program t.told ≡ t.has_ended
  pub looks : w.looks ≡ looks_of i shows
  pub live : is_gone w ≡ false

-- A program of a world is held so; or nothing is to come of it, and nothing is asked of what is held in its place.
pub data Holds {X : Type 0} (follows : X → Program → List Note → List Outcome → List AnswerLine → Type 0) (over : X → Bool) (shows : List Show) (i : ℕ) (w : Program) (t : Teller)
    (x : X) : Type 0 where
  on_its_way : IsHeld follows over shows i w t x → Holds follows over shows i w t x
  has_gone : is_gone w ≡ true → t ≡ starting w → w.looks ≡ looks_of i shows → Holds follows over shows i w t x

-- the events of looks at a memory
abbrev pub looks_at : List ℕ → List Look → List Event
looks_at memory looks = map (λ (k : Look). shown k.at (bytes_shown memory k)) looks

-- Behind so many events whole turns are told; or a turn has begun; or whole turns but for what is still to be shown of a program's memory.
abbrev pub StandsAtFrom : {X : Type 0} → (begun : ℕ) → (X → List ℕ) → List Program → List Detach → List Device → List Line → List Teller → Held X → List Device → Stage → Type 0
StandsAtFrom begun memory programs detaches ds lines tellers h ds' Between = TellsFrom begun programs detaches ds (since begun h.begun) lines tellers ds'
StandsAtFrom begun memory programs detaches ds lines tellers h ds' (Telling turn) =
    (number : ℕ) × (since begun h.begun ≡ suc number) × TellsOnFrom begun programs detaches ds number turn.program turn.due lines tellers ds'
StandsAtFrom {X} begun memory programs detaches ds lines tellers h ds' (Showing turn from) =
    (x : X) × (slice_get h.programs turn.program ≡ Some x)
    × TellsFrom begun programs detaches ds (since begun h.begun) (lines ++ map (line_at turn.due turn.program) (looks_at (memory x) (looks_of turn.program (drop from h.shows)))) tellers ds'

-- behind none
abbrev pub StandsAt : {X : Type 0} → (X → List ℕ) → List Program → List Detach → List Device → List Line → List Teller → Held X → List Device → Stage → Type 0
StandsAt memory = StandsAtFrom 0 memory

-- Behind so many events these lines of a world of the programs have been told, and these devices are there now.
pub record StandingFrom {X : Type 0} (begun : ℕ) (follows : X → Program → List Note → List Outcome → List AnswerLine → Type 0) (over : X → Bool) (memory : X → List ℕ)
    (programs : List Program) (detaches : List Detach) (ds : List Device) (lines : List Line) (h : Held X) (ds' : List Device) (stage : Stage) : Type 0 where
  pub tellers : List Teller
  pub wide : length tellers ≡ length programs
  pub as_many : length h.programs ≡ length programs
  pub each : (i : ℕ) (w : Program) (t : Teller) (x : X) → slice_get programs i ≡ Some w → slice_get tellers i ≡ Some t → slice_get h.programs i ≡ Some x → Holds follows over h.shows i w t x
  pub dues : h.dues ≡ map due_of tellers
  pub detaches_are : h.detaches ≡ detaches
  pub earlier_is : h.earlier ≡ begun
  pub begun_is : behind begun (since begun h.begun) ≡ h.begun
  pub at : StandsAtFrom begun memory programs detaches ds lines tellers h ds' stage

-- behind none
abbrev pub Standing : {X : Type 0} → (X → Program → List Note → List Outcome → List AnswerLine → Type 0) → (X → Bool) → (X → List ℕ) → List Program → List Detach → List Device → List Line → Held X
    → List Device → Stage → Type 0
Standing follows over memory = StandingFrom 0 follows over memory

-- Behind some events lines of some world of programs have been told.
pub record IsTelling {X : Type 0} (follows : X → Program → List Note → List Outcome → List AnswerLine → Type 0) (over : X → Bool) (memory : X → List ℕ) (h : Held X) (ds' : List Device)
    (stage : Stage) : Type 0 where
  pub begun : ℕ
  pub programs : List Program
  pub detaches : List Detach
  pub devices : List Device
  pub lines : List Line
  pub stands : StandingFrom begun follows over memory programs detaches devices lines h ds' stage

-- All programs have ended, which have told and met no more than they had, and all their looks are out; the devices are as they were.
pub record AllTold {X : Type 0} (begun : ℕ) (follows : X → Program → List Note → List Outcome → List AnswerLine → Type 0) (over : X → Bool) (memory : X → List ℕ)
    (programs : List Program) (detaches : List Detach) (ds : List Device) (lines : List Line) (tellers : List Teller) (old new : List Counted) (h : Held X) (ds' : List Device) : Type 0 where
  pub stands : StandingFrom begun follows over memory programs detaches ds lines h ds' Between
  pub tellers_are : stands.tellers ≡ tellers
  pub have_ended : HaveEnded h.dues
  pub kept : new ≡ old

-- The host tells this line more; its call met these outcomes, and left these devices and counts.
pub record TellsLineFrom {X : Type 0} (begun : ℕ) (follows : X → Program → List Note → List Outcome → List AnswerLine → Type 0) (over : X → Bool) (memory : X → List ℕ)
    (programs : List Program) (detaches : List Detach) (ds : List Device) (lines : List Line) (tellers : List Teller) (old new : List Counted) (line : Line) (h : Held X) (ds' : List Device)
    (stage : Stage) : Type 0 where
  pub stands : StandingFrom begun follows over memory programs detaches ds (lines ++ line ∷ []) h ds' stage
  pub met : List Outcome
  pub meets : MeetMore line.program met tellers stands.tellers
  pub takes : TakesCall programs line met old new

-- behind no events before
abbrev pub TellsLine : {X : Type 0} → (X → Program → List Note → List Outcome → List AnswerLine → Type 0) → (X → Bool) → (X → List ℕ) → List Program → List Detach → List Device → List Line
    → List Teller → (old new : List Counted) → Line → Held X → List Device → Stage → Type 0
TellsLine follows over memory = TellsLineFrom 0 follows over memory

-- One line more is told, by devices that were these or, where an event began with it, those that are left; or there is none more.
abbrev pub TellsNext : {X : Type 0} → (begun : ℕ) → (X → Program → List Note → List Outcome → List AnswerLine → Type 0) → (X → Bool) → (X → List ℕ)
    → List Program → List Detach → List Device → List Line → List Teller → (old left new : List Counted) → Turns X → List Device → Option LineValue → Type 0
TellsNext begun follows over memory programs detaches ds lines tellers old left new h ds' result =
    MatchOption result (AllTold begun follows over memory programs detaches ds lines tellers old new (held_of h) ds')
    (λ line. TellsLineFrom begun follows over memory programs detaches ds lines tellers left new (line_of line) (held_of h) ds' h.stage)

-- The programs of a world where they begin, of which none has told anything yet, with the ticks at which they are due.
pub record AllStart {X : Type 0} (follows : X → Program → List Note → List Outcome → List AnswerLine → Type 0) (over : X → Bool) (shows : List Show) (programs : List Program)
    (xs : List X) (dues : List (Option ℕ)) : Type 0 where
  pub wide : length xs ≡ length programs
  pub each : (i : ℕ) (w : Program) (x : X) → slice_get programs i ≡ Some w → slice_get xs i ≡ Some x → Holds follows over shows i w (starting w) x
  pub dues_are : dues ≡ map due_of (map starting programs)

-- nothing is still to be shown
abbrev pub LooksOut : List Show → Stage → Type 0
LooksOut shows Between = Unit {0}
LooksOut shows (Telling turn) = ⊥
LooksOut shows (Showing turn from) = looks_of turn.program (drop from shows) ≡ []

-- the due tick that is told of a program that there is
abbrev pub due_told : Option (Option ℕ) → Option ℕ
due_told None = None
due_told (Some None) = Some 0
due_told (Some (Some due)) = Some due

-- ---- what an event leads to

-- when the program of a turn is due behind this event
abbrev pub due_behind : (due : ℕ) → Event → Option ℕ
due_behind due e = unless (is_end e) (due + ticks_in e)

-- where the host then stands
abbrev pub stage_behind : Turn → Event → Stage
stage_behind turn (paused ticks used) = Between
stage_behind turn (ended how) = Showing turn 0
stage_behind turn _ = Telling turn

-- ---- numbers in range

-- where the host stands, the program is one of so many
abbrev pub PlaceFits : (count : ℕ) → Stage → Type 0
PlaceFits count Between = Unit {0}
PlaceFits count (Telling turn) = turn.program < count
PlaceFits count (Showing turn from) = turn.program < count

-- the ticks of the longest pause
abbrev pub most_ticks : ℕ
most_ticks = 4294967295

-- a due tick is at most this
abbrev pub IsDueBy : ℕ → Option ℕ → Type 0
IsDueBy most None = Unit {0}
IsDueBy most (Some due) = due ≤ most

-- the most ticks at which a program that goes on is due where it begins
abbrev pub most_due : ℕ
most_due = 2 ^ 62

-- the latest tick at which one is due behind so many events, of which so many were before
abbrev pub latest : (earlier begun : ℕ) → ℕ
latest earlier begun = most_due + most_ticks * (begun - earlier)

-- A turn that is on its way can still be put off.
abbrev pub TurnIsDue : (earlier begun : ℕ) → Stage → Type 0
TurnIsDue earlier begun Between = Unit {0}
TurnIsDue earlier begun (Telling turn) = turn.due + most_ticks ≤ latest earlier begun
TurnIsDue earlier begun (Showing turn from) = Unit {0}

-- There are at most 16 programs, each with the tick at which it is due: no turn has put one off by more than the longest pause.
pub record InRange {X : Type 0} (h : Turns X) : Type 0 where
  pub few : length h.programs.items ≤ 16
  pub wide : length h.dues.items ≡ length h.programs.items
  pub place : PlaceFits (length h.programs.items) h.stage
  pub few_earlier : h.earlier ≤ most_due
  pub in_order : h.earlier ≤ h.begun
  pub dues : All (IsDueBy (latest h.earlier h.begun)) h.dues.items
  pub turn : TurnIsDue h.earlier h.begun h.stage
