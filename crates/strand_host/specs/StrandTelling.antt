-- What a program with strands tells next, as its host meets it.
use Rattle.std.specs.Prelude.{◌≡◌, ◌≤◌, ◌<◌, ℕ, List, [], ◌∷◌, length, Option, Some, None, Bool, true, false, slice_get}
use Rattle.wa_model.specs.Outside.{AnswerLine, Event}
use Rattle.wa_model.specs.Plan.{Outcome}
use Rattle.wa_model.specs.Blocking.{Note}
use Rattle.world_model.specs.World.{Device, call_in}
use Rattle.host_laws.specs.Supplies.{Takes}
use Rattle.many_host.specs.Telling.{supply}
use Rattle.strand_laws.specs.Strands.{strand_at}
use Rattle.strand_laws.specs.StrandNotes.{OnStory}
use Rattle.strand_laws.specs.StrandWorld.{StrandsInWorld, strand_program}
use Rattle.strand_laws.specs.ToldStrands.{ProgramTeller, StrandTeller, having_told, told_on}
use Rattle.strand_laws.specs.Weaving.{HasTurn}
use Rattle.strand_host.specs.Standing.{dues_of_strands, now_told}

-- ---- whose turn it is

-- The program hasn't ended, and it is the turn of a strand that was due at this tick: of the one whose turn goes on, or where none does, of the one that
-- is due first.
pub record HasDueTurn (t : ProgramTeller) (due : ℕ) : Type 0 where
  pub goes_on : t.has_ended ≡ false
  pub strand : ℕ
  pub s : StrandTeller
  pub there : slice_get t.strands strand ≡ Some s
  pub unfinished : s.has_ended ≡ false
  pub turn : HasTurn (now_told t.told) (dues_of_strands t.strands) strand
  pub due_is : s.due ≡ due

-- a program is due then; never once it has ended
abbrev pub IsDueThen : ProgramTeller → Option ℕ → Type 0
IsDueThen t None = t.has_ended ≡ true
IsDueThen t (Some due) = HasDueTurn t due

-- ---- what was told

-- A program with strands of a world that has told so much, and is due then: it has a strand at least, and 16 at most, which share a thousand million steps at
-- most; what they told begins their story.
pub record IsToldSo (g : StrandsInWorld) (t : ProgramTeller) (due : Option ℕ) : Type 0 where
  pub story : OnStory g t
  pub some : 0 < length g.program.strands
  pub few : length g.program.strands ≤ 16
  pub few_steps : g.steps ≤ 1000000000
  pub due_is : IsDueThen t due

-- The program's strand of this number, whose turn it was, has told one note more, with this event; a new call took an outcome of the strand's answer lines
-- or the devices, and left these. With it the program may have ended; it has the memory of that note.
pub record TellsStrandNote (follows : ProgramTeller → Type 0) (memory : List ℕ) (g : StrandsInWorld) (t : ProgramTeller) (strand : ℕ) (event : Event) (ds : List Device) (faults : List ℕ)
    (ds' : List Device) (faults' : List ℕ) : Type 0 where
  pub s : StrandTeller
  pub there : slice_get t.strands strand ≡ Some s
  pub unfinished : s.has_ended ≡ false
  pub turn : HasTurn (now_told t.told) (dues_of_strands t.strands) strand
  pub note : Note
  pub event_is : note.event ≡ event
  pub memory_is : note.store.memory ≡ memory
  pub met : List Outcome
  pub answers : List AnswerLine
  pub takes : Takes (strand_program g [] strand (strand_at g.program strand)) (call_in note.event) (supply s.answers ds faults) met (supply answers ds' faults')
  pub is_last : Bool
  pub follow : follows (told_on t strand (having_told s (note ∷ []) met answers) (note ∷ []) is_last)
