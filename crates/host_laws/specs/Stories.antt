-- What a program has told, as the beginning of its story in the protocol world.
use Rattle.std.specs.Prelude.{◌≡◌, ℕ, ◌+◌, ◌-◌, ◌++◌, List, [], ◌∷◌, map}
use Rattle.wa_types.specs.Syntax.{Module}
use Rattle.wa_model.specs.declared.events.End.{End}
use Rattle.wa_model.specs.Machine.{Ran, still}
use Rattle.wa_model.specs.Outside.{AnswerLine, Line, ended}
use Rattle.wa_model.specs.Plan.{Plan, Outcome}
use Rattle.wa_model.specs.Instantiation.{opening}
use Rattle.wa_model.specs.Blocking.{Note, all_left, no_store}
use Rattle.wa_model.specs.Protocol.{Held, held_begun, over}
use Rattle.wa_model.specs.Behaves.{IsPrefix}
use Rattle.world_model.specs.World.{Origin, at_start, gone, at_pause, Program, CallsMeet, answers_from, halted, protocol_story, looks_after, line_at, ticks_in}
use Rattle.host_laws.specs.Stretch.{Stretch}
use Rattle.host_laws.specs.Places.{Place, stands, has_ended, nowhere}

-- what instantiation makes, and where a run then stands, before any outcome is known
abbrev pub opened : Module → Plan → Ran Held Note
opened p plan = held_begun p.start (all_left plan []) (opening p plan.globals)

-- by where the program begins: what its run has made there, and where it stands, before any outcome is known
abbrev pub opened_from : Module → Plan → Origin → Ran Held Note
opened_from p plan at_start = opened p plan
opened_from p plan gone = still (over no_store)
opened_from p plan (at_pause x) = still (halted p plan x [])

-- the same of a program
abbrev pub opened_at : Program → Ran Held Note
opened_at w = opened_from w.source w.plan w.origin

-- the steps that it has left there
abbrev pub steps_from : (steps : ℕ) → Origin → ℕ
steps_from n at_start = n
steps_from n gone = n
steps_from n (at_pause x) = n - x.used

-- the run has made these notes, all of them told but those that are ready, and stands here, with so many steps left
pub record Made (w : Program) (notes ready : List Note) (os : List Outcome) (left : ℕ) (h : Held) : Type 0 where
  pub behind : List Note
  pub made : notes ++ ready ≡ (opened_at w).events ++ behind
  pub used : ℕ
  pub steps : used + left ≡ steps_from w.steps w.origin
  pub stretch : Stretch w.source w.plan (opened_at w).last os behind used h

-- the notes are the whole story, whatever later calls would meet
pub record IsWhole (w : Program) (notes : List Note) (os : List Outcome) (how : End) : Type 0 where
  pub before : List Note
  pub last : Note
  pub last_is : notes ≡ before ++ last ∷ []
  pub end_is : last.event ≡ ended how
  pub whole : (more : List Outcome) → notes ≡ protocol_story w (os ++ more)

-- The program has told these notes, its calls met these outcomes, so many steps are left, and it stands here.
abbrev pub IsAt : Program → List Note → List Outcome → (left : ℕ) → Place → Type 0
IsAt w notes os left (stands ready h) = Made w notes ready os left h
IsAt w notes os left (has_ended how) = IsWhole w notes os how
IsAt w notes os left nowhere = ⊥

-- A program that is alone, without devices, has told these notes: its calls met its answer lines in turn, those that it has left where it
-- begins; these steps and lines are left, and it stands here.
pub record Told (w : Program) (notes : List Note) (left : ℕ) (lines : List AnswerLine) (place : Place) : Type 0 where
  pub outcomes : List Outcome
  pub meets : CallsMeet w notes outcomes (answers_from w.answers w.origin) [] [] lines []
  pub at : IsAt w notes outcomes left place

-- Notes begin a story of the program: for some outcomes that its calls met, whatever later calls meet.
pub record BeginsStory (w : Program) (notes : List Note) : Type 0 where
  pub outcomes : List Outcome
  pub lines : List AnswerLine
  pub meets : CallsMeet w notes outcomes (answers_from w.answers w.origin) [] [] lines []
  pub begins : (more : List Outcome) → IsPrefix notes (protocol_story w (outcomes ++ more))

-- Notes are a whole story of the program.
pub record IsStory (w : Program) (notes : List Note) : Type 0 where
  pub outcomes : List Outcome
  pub lines : List AnswerLine
  pub meets : CallsMeet w notes outcomes (answers_from w.answers w.origin) [] [] lines []
  pub story : notes ≡ protocol_story w outcomes

-- ---- a program alone

-- The lines of a program's notes from this tick on: those of a note, with what is shown after an end, have the tick at which its
-- turn began; a pause puts the next turn off.
abbrev pub lines_from : Program → (tick : ℕ) → List Note → List Line
lines_from w tick [] = []
lines_from w tick (x ∷ xs) = map (line_at tick 0) (x.event ∷ looks_after w.looks x x.event) ++ lines_from w (tick + ticks_in x.event) xs
