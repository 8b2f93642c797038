-- What the words of a command line ask for.
use Rattle.std.specs.Prelude.{ℕ, List, [], ◌∷◌, Option, Some, None, Bool, true, false, if◌then◌else◌, codes}
use Rattle.std.specs.Option.{option_map}
use Rattle.std.specs.Str.{bytes_eq}
use Rattle.script_model.specs.Command.{Command, command, Place, behind_imports, behind_save, Said, said, nothing_said, unless_third}
use Rattle.script_model.specs.ScriptLines.{number_within}

-- Rewrite a module; run the programs of a script, as they are or rewritten; write a generated module and run it; run a script
-- for so many events and write a snapshot; run it on from a snapshot.
pub data Spelled : Type 0 where
  rewrites : (command : Command) → Spelled
  hosts runs : (script : List ℕ) → Spelled
  generates : (number : ℕ) → (output : List ℕ) → Spelled
  saves : (script : List ℕ) → (events : ℕ) → (snap : List ℕ) → Spelled
  continues : (script snap : List ℕ) → Spelled

-- no option was given
abbrev pub is_plain : Place → (imports save : Option (List ℕ)) → (ignore_imports ignore_indirect asserts : Bool) → Bool
is_plain behind_imports imports save ignore_imports ignore_indirect asserts = false
is_plain behind_save imports save ignore_imports ignore_indirect asserts = false
is_plain _ None None false false false = true
is_plain _ imports save ignore_imports ignore_indirect asserts = false

-- files alone, of which there are three at most
abbrev pub files_alone : ((input output third : Option (List ℕ)) → Option Spelled) → Option Said → Option Spelled
files_alone spell None = None
files_alone spell (Some s) = if is_plain s.place s.imports s.save s.ignore_imports s.ignore_indirect s.asserts then spell s.input s.output s.third else None

-- .. two at most
abbrev pub two_files : ((input output : Option (List ℕ)) → Option Spelled) → (input output third : Option (List ℕ)) → Option Spelled
two_files spell input output third = unless_third third (spell input output)

-- a command of one file
abbrev pub one_file : (List ℕ → Spelled) → Option (List ℕ) → Option (List ℕ) → Option Spelled
one_file spell (Some script) None = Some (spell script)
one_file spell _ _ = None

-- the number is 1 to 4,000, in decimal digits without a leading zero
abbrev pub number_and_file : Option (List ℕ) → Option (List ℕ) → Option Spelled
number_and_file (Some number) (Some output) = option_map (λ (n : ℕ). generates n output) (number_within 1 4000 number)
number_and_file _ _ = None

-- the number of events is 1 to 1,000,000,000, in decimal digits without a leading zero
abbrev pub script_events_snap : (script events snap : Option (List ℕ)) → Option Spelled
script_events_snap (Some script) (Some events) (Some snap) = option_map (λ (n : ℕ). saves script n snap) (number_within 1 1000000000 events)
script_events_snap _ _ _ = None

-- a script and a snapshot
abbrev pub script_and_snap : (script snap : Option (List ℕ)) → Option Spelled
script_and_snap (Some script) (Some snap) = Some (continues script snap)
script_and_snap _ _ = None

-- `host SCRIPT`, `run SCRIPT`, `gen N OUT`, `save SCRIPT E SNAP`, `continue SCRIPT SNAP`, in which `--` ends the options too, or a
-- `transform`.
abbrev pub spelled : List (List ℕ) → Option Spelled
spelled [] = None
spelled (word ∷ words) =
    if bytes_eq word (codes "host") then files_alone (two_files (one_file hosts)) (said (Some nothing_said) words)
    else (if bytes_eq word (codes "run") then files_alone (two_files (one_file runs)) (said (Some nothing_said) words)
    else (if bytes_eq word (codes "gen") then files_alone (two_files number_and_file) (said (Some nothing_said) words)
    else (if bytes_eq word (codes "save") then files_alone script_events_snap (said (Some nothing_said) words)
    else (if bytes_eq word (codes "continue") then files_alone (two_files script_and_snap) (said (Some nothing_said) words)
    else option_map rewrites (command (word ∷ words))))))

-- the `transform` that words ask for
abbrev pub rewriting : Option Spelled → Option Command
rewriting (Some (rewrites command)) = Some command
rewriting _ = None
