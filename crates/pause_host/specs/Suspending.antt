-- What putting a program back asks of its numbers and takes of its entries and answer lines.
use Rattle.std.specs.Prelude.{◌≡◌, ◌≤◌, ◌-◌, ℕ, List, ◌∷◌, drop, false, Some, None, slice_get}
use Rattle.wa_types.specs.declared.values.Value.{Value}
use Rattle.wa_types.specs.Modules.{func_type_at}
use Rattle.wa_types.specs.Syntax.{Module}
use Rattle.wa_model.specs.declared.answers.AnswerLine.{AnswerLine as LineValue}
use Rattle.wa_model.specs.Blocking.{fault_of}
use Rattle.wa_model.specs.Outside.{AnswerLine}
use Rattle.wa_model.specs.View.{answer_line_of}
use Rattle.world_model.specs.World as W
use Rattle.world_model.specs.World.{import_names}
use Rattle.interp.specs.Restoring.{PagesFit}
use Rattle.snapshot_store.specs.Snapshots.{PausedParts}
use Rattle.pause_host.specs.declared.program.Program.{Program}
use Rattle.pause_host.specs.declared.stages.EntryCall.{EntryCall}
use Rattle.pause_host.specs.declared.stages.Pause.{Pause}
use Rattle.pause_host.specs.Thawing.{GlobalsSuit}

-- the numbers, globals and pages of a pause fit a program with so many steps
pub record NumbersSuit (m : Module) (imports : List Value) (steps : ℕ) (parts : PausedParts) : Type 0 where
  pub steps_fit : parts.steps_used ≤ steps
  pub some : 1 ≤ parts.answers
  pub pages : PagesFit m parts.pages
  pub globals : GlobalsSuit m imports parts.globals

-- an answer line pauses at this import, over a memory of this size
pub record Suspends (w : W.Program) (import size : ℕ) (line : AnswerLine) : Type 0 where
  pub pauses : 1 ≤ line.answer.ticks
  pub names : slice_get (import_names w.source) import ≡ Some line.import
  pub passes : fault_of (func_type_at w.source import).results size w.plan false import line.answer ≡ None

-- what is left of a program from which entries and answer lines were taken
abbrev pub IsLeft : (old new : Program) → Type 0
IsLeft old new = new ≡ record old { left = new.left }

-- The entry that runs and the last answer taken were taken out, with what stood before them.
pub record TakesPause (w : W.Program) (old : Program) (parts : PausedParts) (size : ℕ) (new : Program) (pause : Pause) : Type 0 where
  pub number : new.left.number ≡ parts.entry
  pub entries : drop parts.entry old.left.entries.items ≡ pause.entry ∷ new.left.entries.items
  pub line : LineValue
  pub lines : drop (parts.answers - 1) old.left.answers.items ≡ line ∷ new.left.answers.items
  pub import_is : pause.import ≡ parts.import
  pub answer_is : pause.answer ≡ line.answer
  pub suspends : Suspends w parts.import size (answer_line_of line)

-- There is no such entry, or no such answer that pauses there.
abbrev pub TakesNone : W.Program → Program → PausedParts → ℕ → Type 0
TakesNone w old parts size =
    (e : EntryCall) (es : List EntryCall) (l : LineValue) (ls : List LineValue)
    → drop parts.entry old.left.entries.items ≡ e ∷ es → drop (parts.answers - 1) old.left.answers.items ≡ l ∷ ls → Suspends w parts.import size (answer_line_of l) → ⊥
