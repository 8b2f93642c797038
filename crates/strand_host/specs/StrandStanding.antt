-- Several programs with strands of a world, as they are held between two lines.
use Rattle.std.specs.Prelude.{◌≡◌, ◌≤◌, ◌<◌, ℕ, suc, List, [], ◌∷◌, ◌++◌, length, map, drop, Option, Some, Bool, if◌then◌else◌, nat_eq, MatchOption, slice_get}
use Rattle.wa_model.specs.declared.answers.Detach.{Detach}
use Rattle.wa_model.specs.Outside.{Event, paused, ended}
use Rattle.wa_model.specs.Plan.{Outcome}
use Rattle.world_model.specs.World.{Device}
use Rattle.event_order.specs.declared.shows.Show.{Show}
use Rattle.event_order.specs.declared.turns.Turn.{Turn}
use Rattle.event_order.specs.Dues.{HaveEnded}
use Rattle.event_order.specs.Left.{Counted}
use Rattle.event_order.specs.Looks.{looks_of}
use Rattle.many_host.specs.Standing.{looks_at}
use Rattle.strand_laws.specs.StrandNotes.{TellsOnStrands}
use Rattle.strand_laws.specs.StrandWorld.{StrandLine, StrandsInWorld}
use Rattle.strand_laws.specs.ToldStrands.{ProgramTeller, StrandTeller, TellsStrands, line_of, starting}
use Rattle.strand_host.specs.StrandCalls.{TakesStrandCall, strand_line_of}
use Rattle.strand_host.specs.declared.turn_taking.Stage.{Stage}
use Rattle.strand_host.specs.declared.turn_taking.Stage.TheVariants.{Between, Telling, Showing}
use Rattle.strand_host.specs.declared.turn_taking.StrandLine.{StrandLine as LineValue}
use Rattle.strand_host.specs.declared.turn_taking.StrandTurns.{StrandTurns}

-- The programs, when each is due, the devices to be taken out, what is shown behind ends, and how many events have begun.
pub record Hosted (X : Type 0) : Type 0 where
  pub programs : List X
  pub dues : List (Option ℕ)
  pub detaches : List Detach
  pub shows : List Show
  pub begun : ℕ

-- what is held
abbrev pub hosted_of : {X : Type 0} → StrandTurns X → Hosted X
hosted_of h = record { programs = h.programs.items; dues = h.dues.items; detaches = h.detaches.items; shows = h.shows.items; begun = h.begun }

-- A program with strands of a world is held so: its strands have told what the teller has, and its looks are its shows.
pub record IsHosted {X : Type 0} (follows : X → StrandsInWorld → ProgramTeller → Type 0) (shows : List Show) (i : ℕ) (g : StrandsInWorld) (t : ProgramTeller) (x : X) : Type 0 where
  pub follow : follows x g t
  pub looks : g.looks ≡ looks_of i shows

-- the lines of looks at a memory
abbrev pub shown_lines : (due program : ℕ) → (memory : List ℕ) → (from : ℕ) → List Show → List StrandLine
shown_lines due program memory from shows = map (line_of due program 0) (looks_at memory (looks_of program (drop from shows)))

-- Whole turns are told; or a strand's turn has begun; or whole turns but for what is still to be shown of a program's memory.
abbrev pub StrandsStandAt : {X : Type 0} → (X → List ℕ) → List StrandsInWorld → List Detach → List Device → List StrandLine → List ProgramTeller → Hosted X → List Device → Stage → Type 0
StrandsStandAt memory programs detaches ds lines tellers h ds' Between = TellsStrands programs detaches ds h.begun lines tellers ds'
StrandsStandAt memory programs detaches ds lines tellers h ds' (Telling turn) =
    (number strand : ℕ) × (h.begun ≡ suc number) × TellsOnStrands programs detaches ds number turn.program strand turn.due lines tellers ds'
StrandsStandAt {X} memory programs detaches ds lines tellers h ds' (Showing turn from) =
    (x : X) × (slice_get h.programs turn.program ≡ Some x)
    × TellsStrands programs detaches ds h.begun (lines ++ shown_lines turn.due turn.program (memory x) from h.shows) tellers ds'

-- These lines of a world of the programs with strands have been told, and these devices are there now.
pub record StrandsStanding {X : Type 0} (follows : X → StrandsInWorld → ProgramTeller → Type 0) (due_at : X → Option ℕ) (memory : X → List ℕ) (programs : List StrandsInWorld)
    (detaches : List Detach) (ds : List Device) (lines : List StrandLine) (h : Hosted X) (ds' : List Device) (stage : Stage) : Type 0 where
  pub tellers : List ProgramTeller
  pub wide : length tellers ≡ length programs
  pub as_many : length h.programs ≡ length programs
  pub each : (i : ℕ) (g : StrandsInWorld) (t : ProgramTeller) (x : X) → slice_get programs i ≡ Some g → slice_get tellers i ≡ Some t → slice_get h.programs i ≡ Some x → IsHosted follows h.shows i g t x
  pub dues : h.dues ≡ map due_at h.programs
  pub detaches_are : h.detaches ≡ detaches
  pub at : StrandsStandAt memory programs detaches ds lines tellers h ds' stage

-- Lines of some world of programs with strands have been told.
pub record AreTelling {X : Type 0} (follows : X → StrandsInWorld → ProgramTeller → Type 0) (due_at : X → Option ℕ) (memory : X → List ℕ) (h : Hosted X) (ds' : List Device) (stage : Stage) : Type 0 where
  pub programs : List StrandsInWorld
  pub detaches : List Detach
  pub devices : List Device
  pub lines : List StrandLine
  pub stands : StrandsStanding follows due_at memory programs detaches devices lines h ds' stage

-- The calls of a program's strand have met these outcomes more, and those of all others what they had.
abbrev pub StrandsMeetMore : (program strand : ℕ) → (met : List Outcome) → (tellers tellers' : List ProgramTeller) → Type 0
StrandsMeetMore program strand met tellers tellers' =
    (i k : ℕ) (t t' : ProgramTeller) (s s' : StrandTeller) → slice_get tellers i ≡ Some t → slice_get tellers' i ≡ Some t' → slice_get t.strands k ≡ Some s → slice_get t'.strands k ≡ Some s'
    → s'.met ≡ s.met ++ (if nat_eq i program then (if nat_eq k strand then met else []) else [])

-- All programs have ended, which have told and met no more than they had, and all their looks are out; the devices are as they were.
pub record AllStrandsTold {X : Type 0} (follows : X → StrandsInWorld → ProgramTeller → Type 0) (due_at : X → Option ℕ) (memory : X → List ℕ) (programs : List StrandsInWorld)
    (detaches : List Detach) (ds : List Device) (lines : List StrandLine) (tellers : List ProgramTeller) (old new : List Counted) (h : Hosted X) (ds' : List Device) : Type 0 where
  pub stands : StrandsStanding follows due_at memory programs detaches ds lines h ds' Between
  pub tellers_are : stands.tellers ≡ tellers
  pub have_ended : HaveEnded h.dues
  pub kept : new ≡ old

-- This line more is told; its call met these outcomes, and left these devices and counts.
pub record TellsStrandLine {X : Type 0} (follows : X → StrandsInWorld → ProgramTeller → Type 0) (due_at : X → Option ℕ) (memory : X → List ℕ) (programs : List StrandsInWorld)
    (detaches : List Detach) (ds : List Device) (lines : List StrandLine) (tellers : List ProgramTeller) (old new : List Counted) (line : StrandLine) (h : Hosted X) (ds' : List Device)
    (stage : Stage) : Type 0 where
  pub stands : StrandsStanding follows due_at memory programs detaches ds (lines ++ line ∷ []) h ds' stage
  pub met : List Outcome
  pub meets : StrandsMeetMore line.program line.strand met tellers stands.tellers
  pub takes : TakesStrandCall programs line met old new

-- One line more is told, by devices that were these or, where an event began with it, those that are left; or there is none more.
abbrev pub TellsNextLine : {X : Type 0} → (X → StrandsInWorld → ProgramTeller → Type 0) → (X → Option ℕ) → (X → List ℕ) → List StrandsInWorld → List Detach → List Device → List StrandLine
    → List ProgramTeller → (old left new : List Counted) → StrandTurns X → List Device → Option LineValue → Type 0
TellsNextLine follows due_at memory programs detaches ds lines tellers old left new h ds' result =
    MatchOption result (AllStrandsTold follows due_at memory programs detaches ds lines tellers old new (hosted_of h) ds')
    (λ line. TellsStrandLine follows due_at memory programs detaches ds lines tellers left new (strand_line_of line) (hosted_of h) ds' h.stage)

-- The programs of a world where they begin, of which none has told anything yet.
pub record AllStrandsStart {X : Type 0} (follows : X → StrandsInWorld → ProgramTeller → Type 0) (shows : List Show) (programs : List StrandsInWorld) (xs : List X) : Type 0 where
  pub wide : length xs ≡ length programs
  pub each : (i : ℕ) (g : StrandsInWorld) (x : X) → slice_get programs i ≡ Some g → slice_get xs i ≡ Some x → IsHosted follows shows i g (starting g) x

-- ---- where the host stands

-- nothing is still to be shown
abbrev pub AreLooksOut : List Show → Stage → Type 0
AreLooksOut shows Between = Unit {0}
AreLooksOut shows (Telling turn) = ⊥
AreLooksOut shows (Showing turn from) = looks_of turn.program (drop from shows) ≡ []

-- where the host stands behind an event of a turn's strand, with which the program may have ended
abbrev pub stage_behind : Turn → (is_over : Bool) → Event → Stage
stage_behind turn is_over (paused ticks used) = Between
stage_behind turn is_over (ended how) = if is_over then Showing turn 0 else Between
stage_behind turn is_over _ = Telling turn

-- where the host stands, the program is one of so many
abbrev pub IsPlace : (count : ℕ) → Stage → Type 0
IsPlace count Between = Unit {0}
IsPlace count (Telling turn) = turn.program < count
IsPlace count (Showing turn from) = turn.program < count

-- There are at most 16 programs, each with the tick at which it is due.
pub record AreInRange {X : Type 0} (h : StrandTurns X) : Type 0 where
  pub few : length h.programs.items ≤ 16
  pub wide : length h.dues.items ≡ length h.programs.items
  pub place : IsPlace (length h.programs.items) h.stage
