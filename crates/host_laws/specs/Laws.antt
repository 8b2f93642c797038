-- Laws of what a program tells.
use Rattle.std.specs.Prelude.{◌≡◌, ℕ, ◌+◌, ◌-◌, ◌++◌, List, [], ◌∷◌}
use Rattle.wa_types.specs.Syntax.{Module}
use Rattle.wa_model.specs.declared.events.End.{End}
use Rattle.wa_model.specs.Outside.{AnswerLine}
use Rattle.wa_model.specs.Plan.{Plan, Outcome}
use Rattle.wa_model.specs.Blocking.{Note}
use Rattle.wa_model.specs.Protocol.{Held}
use Rattle.wa_model.specs.Behaves.{IsPrefix}
use Rattle.world_model.specs.World.{Program, Device, call_in, CallsMeet, answers_from, due_from, protocol_story, ProtocolWorld}
use Rattle.host_laws.specs.Stretch.{Stretch}
use Rattle.host_laws.specs.Supplies.{Supply, Takes}
use Rattle.host_laws.specs.Places.{Place, stands, has_ended, TellsFrom}
use Rattle.host_laws.specs.Stories.{opened_at, steps_from, IsAt, Told, BeginsStory, IsStory, lines_from}

-- Stretches compose.
abbrev pub StretchesCompose : Type 0
StretchesCompose =
    (p : Module) (plan : Plan) (h h' h'' : Held) (os os' : List Outcome) (notes notes' : List Note) (cost cost' : ℕ)
    → Stretch p plan h os notes cost h' → Stretch p plan h' os' notes' cost' h'' → Stretch p plan h (os ++ os') (notes ++ notes') (cost + cost') h''

-- At first a program has told nothing, and stands where it begins,
abbrev pub NothingToldYet : Type 0
NothingToldYet = (w : Program) → IsAt w [] [] (steps_from w.steps w.origin) (stands (opened_at w).events (opened_at w).last)

-- and with each event that it tells it has told one more, whatever else the devices were asked in between.
abbrev pub OneMoreTold : Type 0
OneMoreTold =
    (w : Program) (notes : List Note) (os : List Outcome) (left : ℕ) (place : Place) (old : Supply) (x : Note) (used : ℕ) (new : Supply) (place' : Place)
    → IsAt w notes os left place → TellsFrom w place left old x used new place'
    → (met : List Outcome) × Takes w (call_in x.event) old met new × IsAt w (notes ++ x ∷ []) (os ++ met) (left - used) place'

-- What was told begins a story at each moment, whatever later calls meet,
abbrev pub PlaceBegins : Type 0
PlaceBegins = (w : Program) (notes : List Note) (os : List Outcome) (left : ℕ) (place : Place) → IsAt w notes os left place → (more : List Outcome) → IsPrefix notes (protocol_story w (os ++ more))

-- and is a whole one once the end was told.
abbrev pub PlaceWhole : Type 0
PlaceWhole = (w : Program) (notes : List Note) (os : List Outcome) (left : ℕ) (how : End) → IsAt w notes os left (has_ended how) → notes ≡ protocol_story w os

-- The calls of notes told one behind another meet what each of them took.
abbrev pub OneMoreMet : Type 0
OneMoreMet =
    (w : Program) (notes : List Note) (os met : List Outcome) (lines : List AnswerLine) (ds : List Device) (x : Note) (old new : Supply)
    → CallsMeet w notes os lines ds [] old.lines old.devices → Takes w (call_in x.event) old met new → CallsMeet w (notes ++ x ∷ []) (os ++ met) lines ds [] new.lines new.devices

-- ---- a program alone, without devices

-- Where it begins a program has told nothing.
abbrev pub NothingToldAlone : Type 0
NothingToldAlone = (w : Program) → Told w [] (steps_from w.steps w.origin) (answers_from w.answers w.origin) (stands (opened_at w).events (opened_at w).last)

-- With one note more it has told that, too, and there are no devices still.
abbrev pub OneMoreAlone : Type 0
OneMoreAlone =
    (w : Program) (notes : List Note) (left : ℕ) (place : Place) (old : Supply) (x : Note) (used : ℕ) (new : Supply) (place' : Place)
    → old.devices ≡ [] → Told w notes left old.lines place → TellsFrom w place left old x used new place'
    → Told w (notes ++ x ∷ []) (left - used) new.lines place' × (new.devices ≡ [])

-- What was told begins a story at each moment,
abbrev pub ToldBegins : Type 0
ToldBegins = (w : Program) (notes : List Note) (left : ℕ) (lines : List AnswerLine) (place : Place) → Told w notes left lines place → BeginsStory w notes

-- and is a whole one once the end was told.
abbrev pub ToldWhole : Type 0
ToldWhole = (w : Program) (notes : List Note) (left : ℕ) (lines : List AnswerLine) (how : End) → Told w notes left lines (has_ended how) → IsStory w notes

-- Alone and without devices, a program with a story makes a run of the protocol world, with the story's lines.
abbrev pub StoryIsWorld : Type 0
StoryIsWorld = (w : Program) (notes : List Note) → IsStory w notes → ProtocolWorld (w ∷ []) [] [] (lines_from w (due_from w.origin) notes) []
