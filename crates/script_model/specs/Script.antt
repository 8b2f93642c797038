-- Scripts as plain data: programs, each with the line at which each of its parts stands, the devices that are taken out, and mailboxes.
use Rattle.std.specs.Prelude.{ℕ, List, Option, Some, None, Bool, nat_le, slice_get, if◌then◌else◌}
use Rattle.std.specs.List.{flat_map}
use Rattle.std.specs.Option.{option_map}
use Rattle.wa_types.specs.declared.values.Value.{Value}
use Rattle.wa_model.specs.declared.answers.Area.{Area}
use Rattle.wa_model.specs.Outside.{AnswerLine}

-- The value of the imported globals of a joined name.
pub record GlobalText : Type 0 where
  pub line : ℕ
  pub name : List ℕ
  pub value : Value

-- The device or mailbox to which the function imports of a joined name are bound.
pub record BindText : Type 0 where
  pub line : ℕ
  pub import : List ℕ
  pub device : List ℕ

-- One more entry call.
pub record EntryText : Type 0 where
  pub line : ℕ
  pub name : List ℕ
  pub args : List Value

-- The memory that is shown after the end.
pub record ShowText : Type 0 where
  pub line : ℕ
  pub at : ℕ
  pub len : ℕ

-- A device that is taken out before the event of this number.
pub record DetachText : Type 0 where
  pub device : List ℕ
  pub before : ℕ

-- A further strand of a program, behind its first: its area and the line of it, its entries and its answer lines in order.
pub record StrandText : Type 0 where
  pub line : ℕ
  pub area : Area
  pub entries : List EntryText
  pub answers : List AnswerLine

-- A program: the line at which it begins, the path of its module, its list of imports where it has one, whether none is listed,
-- its policy, its area and the line of it, its number of steps, and its lines of each kind in order; those of entries and answers are its
-- first strand's, behind which come the others.
pub record ProgramText : Type 0 where
  pub line : ℕ
  pub path : List ℕ
  pub list : Option (List ℕ)
  pub ignore_imports : Bool
  pub policy_live : Bool
  pub area : Area
  pub area_line : ℕ
  pub steps : ℕ
  pub globals : List GlobalText
  pub binds : List BindText
  pub entries : List EntryText
  pub answers : List AnswerLine
  pub shows : List ShowText
  pub strands : List StrandText

-- A mailbox, by which programs wait for one another.
pub record MailboxText : Type 0 where
  pub line : ℕ
  pub name : List ℕ

-- A script: its programs, the devices that it takes out, and its mailboxes.
pub record Script : Type 0 where
  pub programs : List ProgramText
  pub detaches : List DetachText
  pub mailboxes : List MailboxText

-- the line of the first `device` line of all programs, where there is one
abbrev pub device_line : Script → Option ℕ
device_line s = option_map (λ (b : BindText). b.line) (slice_get (flat_map (λ (t : ProgramText). t.binds) s.programs) 0)

-- the line of the first `mailbox` line, where there is one
abbrev pub mailbox_line : Script → Option ℕ
mailbox_line s = option_map (λ (m : MailboxText). m.line) (slice_get s.mailboxes 0)

-- the line of the first `strand` line of all programs, where there is one
abbrev pub strand_line : Script → Option ℕ
strand_line s = option_map (λ (x : StrandText). x.line) (slice_get (flat_map (λ (t : ProgramText). t.strands) s.programs) 0)

-- the lesser of two lines, where they are told
abbrev pub lesser_line : Option ℕ → Option ℕ → Option ℕ
lesser_line (Some a) (Some b) = Some (if nat_le a b then a else b)
lesser_line (Some a) None = Some a
lesser_line None other = other

-- the line of the first `device`, `mailbox` or `strand` line, where there is one: of what no snapshot holds
abbrev pub unsaved_line : Script → Option ℕ
unsaved_line s = lesser_line (device_line s) (lesser_line (mailbox_line s) (strand_line s))

-- Why a text is no script: a rule that a line breaks, lines being counted from 1, or more programs than there may be.
pub data ScriptFault : Type 0 where
  breaks : (line rule : ℕ) → ScriptFault
  too_many : (found : ℕ) → ScriptFault
