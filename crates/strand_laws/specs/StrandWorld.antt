-- Several programs with strands over one list of devices: each strand is an actor of a world, and those of one program tell one woven run.
use Rattle.std.specs.Prelude.{◌≡◌, ℕ, suc, ◌-◌, ◌≤◌, ◌<◌, nat_lt, nat_eq, if◌then◌else◌, List, [], ◌∷◌, ◌++◌, length, map, take, Option, Some, None, Bool, true, false, slice_get}
use Rattle.std.specs.List.{AllZip, filter_map}
use Rattle.std.specs.Option.{unwrap_or}
use Rattle.wa_types.specs.Bounds.{Bound}
use Rattle.wa_types.specs.Pausing.{Settings}
use Rattle.wa_model.specs.declared.answers.Detach.{Detach}
use Rattle.wa_model.specs.declared.events.End.TheVariants.{StepsSpent}
use Rattle.wa_model.specs.Behaves.{pause_stacks}
use Rattle.wa_model.specs.Blocking.{Note, note}
use Rattle.wa_model.specs.Outside.{AnswerLine, Event, Line, ended, shown}
use Rattle.wa_model.specs.Plan.{Outcome}
use Rattle.wa_model.specs.Protocol.{Held, store_held}
use Rattle.wa_model.specs.Store.{Store}
use Rattle.world_model.specs.World.{Actor, Device, Events, IsOver, Look, Program, at_start}
use Rattle.strand_laws.specs.Strands.{BlockingStrands, ProtocolStrands, Strand, StrandMoment, StrandProgram, Strung, plan_of}
use Rattle.strand_laws.specs.Woven.{Ready, Told, Woven, notes_told, standing_now}

-- A program with strands in a world: its number of steps, which all strands share, the answer lines of each strand, for each function
-- import the device to which it is bound, where there is one, and what is shown of its memory.
pub record StrandsInWorld : Type 0 where
  pub program : StrandProgram
  pub steps : ℕ
  pub answers : List (List AnswerLine)
  pub binds : List (Option (List ℕ))
  pub looks : List Look

-- the answer lines of the strand of this number
abbrev pub answers_of : StrandsInWorld → ℕ → List AnswerLine
answers_of g i = unwrap_or (slice_get g.answers i) []

-- ---- what a program's strands tell

-- a strand that goes on where the steps don't reach for its next move
abbrev pub strand_unless_over : (steps : ℕ) → Option (Ready Held) → List Told
strand_unless_over steps None = []
strand_unless_over steps (Some r) = record { strand = r.strand; note = note (ended (StepsSpent steps)) (store_held r.at) } ∷ []

-- In the protocol world strands tell their run up to the program's number of steps.
abbrev pub HeldStrands : StrandsInWorld → List (List Outcome) → List Told → Type 0
HeldStrands g oss ts = ts ≡ (ProtocolStrands g.program oss g.steps).events ++ strand_unless_over g.steps (standing_now (ProtocolStrands g.program oss g.steps).last)

-- the notes up to and including this place are within the program's steps for certain
abbrev pub IsStrandCertain : Settings → StrandsInWorld → List (List Outcome) → ℕ → Type 0
IsStrandCertain s g oss j =
    (c : ℕ) × (j < length (BlockingStrands s g.program oss c).events) × (Bound g.program.source c (pause_stacks (notes_told (BlockingStrands s g.program oss c).events)) ≤ g.steps)

-- no strand goes on: the program has ended
abbrev pub IsFinished : {S : Type 0} → Woven S → Type 0
IsFinished w = standing_now w ≡ None

-- the strand of the next note, else the one that goes on
abbrev pub strand_next : Option Told → Option (Ready Strung) → Option ℕ
strand_next (Some t) r = Some t.strand
strand_next None (Some r) = Some r.strand
strand_next None None = None

-- In the blocking world strands tell their run to its end, within a cost of the number of steps; or the program ends as StepsSpent, told by
-- the strand whose next note isn't certain, and shows its memory at a moment of its run.
pub data StrungStrands (s : Settings) (g : StrandsInWorld) (oss : List (List Outcome)) : List Told → Type 0 where
  whole : (ts : List Told) → ts ≡ (BlockingStrands s g.program oss g.steps).events → IsFinished (BlockingStrands s g.program oss g.steps).last → StrungStrands s g oss ts
  spent : (j strand : ℕ) (before ts : List Told) (at : Store) → before ≡ take j (BlockingStrands s g.program oss g.steps).events
      → j ≤ length (BlockingStrands s g.program oss g.steps).events
      → strand_next (slice_get (BlockingStrands s g.program oss g.steps).events j) (standing_now (BlockingStrands s g.program oss g.steps).last) ≡ Some strand
      → (IsStrandCertain s g oss j → ⊥) → StrandMoment s g.program oss g.steps before at
      → ts ≡ before ++ record { strand = strand; note = note (ended (StepsSpent g.steps)) at } ∷ [] → StrungStrands s g oss ts

-- ---- strands as actors

-- the strand of the last note
abbrev pub last_strand : List Told → ℕ
last_strand [] = 0
last_strand (t ∷ []) = t.strand
last_strand (t ∷ u ∷ ts) = last_strand (u ∷ ts)

-- the note, where it is of this strand
abbrev pub note_if : (strand : ℕ) → Told → Option Note
note_if i t = if nat_eq t.strand i then Some t.note else None

-- the notes of a strand
abbrev pub notes_of : (strand : ℕ) → List Told → List Note
notes_of i ts = filter_map (note_if i) ts

-- looks, where told
abbrev pub looks_if : Bool → List Look → List Look
looks_if true looks = looks
looks_if false looks = []

-- a strand as a program of a world, behind whose end this is shown
abbrev pub strand_program : StrandsInWorld → List Look → (number : ℕ) → Strand → Program
strand_program g looks i s = record { source = g.program.source; plan = plan_of g.program s; steps = g.steps; answers = answers_of g i; binds = g.binds; looks = looks; origin = at_start }

-- each strand as a program of a world, from this number on; the looks stand behind the end of the strand that tells the last note
abbrev pub strand_programs : StrandsInWorld → (last number : ℕ) → List Strand → List Program
strand_programs g last i [] = []
strand_programs g last i (s ∷ ss) = strand_program g (looks_if (nat_eq last i) g.looks) i s ∷ strand_programs g last (suc i) ss

-- each strand as an actor at its start, from this number on
abbrev pub strand_actors : StrandsInWorld → List Told → (number : ℕ) → List (List Outcome) → List Actor
strand_actors g ts i [] = []
strand_actors g ts i (os ∷ oss) = record { due = 0; notes = notes_of i ts; outcomes = os; answers = answers_of g i } ∷ strand_actors g ts (suc i) oss

-- The programs and the actors that a program's strands are.
pub record Staged : Type 0 where
  pub programs : List Program
  pub actors : List Actor

-- A program's strands at their start: outcomes for each, what all tell with these, and from it a program and an actor each.
pub record StartsStrands (story : StrandsInWorld → List (List Outcome) → List Told → Type 0) (g : StrandsInWorld) (x : Staged) : Type 0 where
  pub outcomes : List (List Outcome)
  pub told : List Told
  pub wide : length outcomes ≡ length g.program.strands
  pub tells : story g outcomes told
  pub programs_are : x.programs ≡ strand_programs g (last_strand told) 0 g.program.strands
  pub actors_are : x.actors ≡ strand_actors g told 0 outcomes

-- ---- lines

-- An event of a strand of a program, and the tick at which it began.
pub record StrandLine : Type 0 where
  pub tick : ℕ
  pub program : ℕ
  pub strand : ℕ
  pub event : Event

-- what is shown counts as told by the first strand
abbrev pub strand_in : (strand : ℕ) → Event → ℕ
strand_in i (shown at bytes) = 0
strand_in i _ = i

-- the line of an actor, where the strands of all programs are numbered in a row, and the first of these programs has the number p
abbrev pub strand_line : (p : ℕ) → List StrandProgram → (actor tick : ℕ) → Event → StrandLine
strand_line p [] i tick e = record { tick = tick; program = p; strand = strand_in i e; event = e }
strand_line p (g ∷ gs) i tick e =
    if nat_lt i (length g.strands) then record { tick = tick; program = p; strand = strand_in i e; event = e } else strand_line (suc p) gs (i - length g.strands) tick e

-- the lines of strands, from those of actors
abbrev pub strand_lines : List StrandProgram → List Line → List StrandLine
strand_lines gs lines = map (λ (l : Line). strand_line 0 gs l.program l.tick l.event) lines

-- ---- worlds

-- lists one behind another
abbrev pub joined : {A : Type 0} → List (List A) → List A
joined [] = []
joined (xs ∷ xss) = xs ++ joined xss

-- A run of strands that start so: the events of all actors, in the order of the world, to their end.
pub record StrandRuns (detaches : List Detach) (ds : List Device) (gs : List StrandsInWorld) (staged : List Staged) (lines : List StrandLine) (ds' : List Device) : Type 0 where
  pub flat : List Line
  pub last : List Actor
  pub events : Events (joined (map (λ (x : Staged). x.programs) staged)) detaches 1 (joined (map (λ (x : Staged). x.actors) staged)) ds flat last ds'
  pub over : IsOver last
  pub made : lines ≡ strand_lines (map (λ (g : StrandsInWorld). g.program) gs) flat

-- A run of the protocol world of strands over prepared modules.
pub record ProtocolStrandWorld (gs : List StrandsInWorld) (detaches : List Detach) (ds : List Device) (lines : List StrandLine) (ds' : List Device) : Type 0 where
  pub staged : List Staged
  pub starts : AllZip (StartsStrands HeldStrands) gs staged
  pub runs : StrandRuns detaches ds gs staged lines ds'

-- A program with strands of the blocking world, and its settings.
pub record StrandOriginal : Type 0 where
  pub program : StrandsInWorld
  pub settings : Settings

-- its strands at their start
abbrev pub StartsStrung : StrandOriginal → Staged → Type 0
StartsStrung o x = StartsStrands (StrungStrands o.settings) o.program x

-- A run of the blocking world of strands over original modules.
pub record BlockingStrandWorld (originals : List StrandOriginal) (detaches : List Detach) (ds : List Device) (lines : List StrandLine) (ds' : List Device) : Type 0 where
  pub staged : List Staged
  pub starts : AllZip StartsStrung originals staged
  pub runs : StrandRuns detaches ds (map (λ (o : StrandOriginal). o.program) originals) staged lines ds'
