-- Scripts that are saved and continued: they are set up as `run` sets them up, and have no `device`, `mailbox` or `strand` line, since no
-- snapshot holds a device's journal, a mailbox or a further strand.
use Rattle.std.specs.Prelude.{◌≡◌, ◌⊎◌, ℕ, List, Option, Some, None}
use Rattle.vault_port.specs.Files.{Files}
use Rattle.script_model.specs.Script.{Script, unsaved_line}
use Rattle.script_model.specs.Transcript.{Refusal, script}
use Rattle.script_command.specs.declared.way.Way.TheVariants.{Run}
use Rattle.script_command.specs.Ends.{program_of_cause}
use Rattle.script_command.specs.Playing as P
use Rattle.script_command.specs.Playing.{HasScript, bad_script, refusal_of_cause}

-- The script has a `device`, `mailbox` or `strand` line; this is the first.
pub record HasUnsavedAt (files : Option Files) (name : List ℕ) (line : ℕ) : Type 0 where
  pub whole : Script
  pub of_script : HasScript files name whole
  pub first : unsaved_line whole ≡ Some line

-- It has none.
pub record HasNoUnsaved (files : Option Files) (name : List ℕ) : Type 0 where
  pub whole : Script
  pub of_script : HasScript files name whole
  pub none : unsaved_line whole ≡ None

-- A script without a `device`, `mailbox` or `strand` line, and its programs, all set up.
pub record Play (files : Option Files) (name : List ℕ) : Type 0 where
  pub run : P.Play Run files name
  pub none : unsaved_line run.whole ≡ None

-- ---- why a script isn't played

-- it has such a line, which is rule 18; or it isn't run, for this
pub data Cause : Type 0 where
  has_unsaved : (line : ℕ) → Cause
  not_run : (cause : P.Cause) → Cause

-- Rule 18 stands behind the script's own faults and before all that is read of its programs.
abbrev pub IsUnplayed : Option Files → (name : List ℕ) → Cause → Type 0
IsUnplayed files name (has_unsaved line) = HasUnsavedAt files name line
IsUnplayed files name (not_run (bad_script r)) = P.IsRefused Run files name (bad_script r)
IsUnplayed files name (not_run cause) = P.IsRefused Run files name cause × HasNoUnsaved files name

-- what is told of a cause
abbrev pub refusal_for : Cause → Refusal
refusal_for (has_unsaved line) = script line 18
refusal_for (not_run cause) = refusal_of_cause cause

-- the program that it names
abbrev pub program_for : Cause → Option ℕ
program_for (has_unsaved line) = None
program_for (not_run cause) = program_of_cause cause

-- a file that is read for a script: its own; or the module of a program that is reached, and then it has no such line
abbrev pub IsRead : Option Files → (name : List ℕ) → (read : List ℕ) → Type 0
IsRead files name read = (read ≡ name) ⊎ (P.IsRead Run files name read × HasNoUnsaved files name)
