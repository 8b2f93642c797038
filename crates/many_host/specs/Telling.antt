-- What one of several programs tells next.
use Rattle.std.specs.Prelude.{◌≡◌, ℕ, List, [], ◌∷◌, ◌++◌, Bool}
use Rattle.wa_model.specs.Outside.{AnswerLine, Event}
use Rattle.wa_model.specs.Plan.{Outcome}
use Rattle.wa_model.specs.Blocking.{Note}
use Rattle.world_model.specs.World.{Device, Program, call_in, is_end}
use Rattle.host_laws.specs.Supplies.{Supply, Takes}

-- answer lines, devices and the devices' counts of faults
abbrev pub supply : List AnswerLine → List Device → List ℕ → Supply
supply answers devices faults = record { lines = answers; devices = devices; faults = faults }

-- A program that has told these notes, with these outcomes of its calls, tells one note more, with this event; a new call takes an
-- outcome of the answer lines or the devices, and leaves these.
pub record TellsNote (follows : List Note → List Outcome → List AnswerLine → Type 0) (ended : Bool) (memory : List ℕ) (w : Program) (notes : List Note) (os : List Outcome)
    (old : Supply) (event : Event) (devices : List Device) (faults : List ℕ) : Type 0 where
  pub note : Note
  pub event_is : note.event ≡ event
  pub memory_is : note.store.memory ≡ memory
  pub ended_is : ended ≡ is_end note.event
  pub met : List Outcome
  pub answers : List AnswerLine
  pub takes : Takes w (call_in note.event) old met (supply answers devices faults)
  pub follow : follows (notes ++ note ∷ []) (os ++ met) answers
