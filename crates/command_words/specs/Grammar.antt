-- The command line as one simple command of `clap` with one level of subcommands, and what the matches of each say.
use Rattle.std.specs.Prelude.{◌≡◌, ◌⊎◌, List, [], ◌∷◌, Option, Some, None, option_map, Bool, true, false, codes}
use Rattle.std.specs.Str.{bytes_eq}
use Rattle.clap.specs.Walk.{Row, Rule, Text, first_of, one_of}
use Rattle.clap.specs.Simple.{App, Shape, new_rule, new_shape, with_subcommand, filled_from}
use Rattle.clap.specs.declared.builder.action.ArgAction.TheVariants.{SetTrue}
use Rattle.script_model.specs.Command.{choice_said, policy_said, with_files}
use Rattle.script_model.specs.Spelled.{Spelled, rewrites, hosts, runs, number_and_file, script_and_snap, script_events_snap}

-- the commands, by their first words
pub data Kind : Type 0 where
  transform_words host_words run_words gen_words save_words continue_words : Kind

-- a command's first word
abbrev pub name_of : Kind → Text
name_of transform_words = codes "transform"
name_of host_words = codes "host"
name_of run_words = codes "run"
name_of gen_words = codes "gen"
name_of save_words = codes "save"
name_of continue_words = codes "continue"

-- ---- the arguments

-- an option with a value
abbrev pub option_rule : Text → Rule
option_rule name = record (new_rule name) { long = Some name }

-- an option without a value
abbrev pub flag_rule : Text → Rule
flag_rule name = record (new_rule name) { long = Some name; action = Some SetTrue }

-- a file, or a number, by its place
abbrev pub placed_rule : Text → Rule
placed_rule id = record (new_rule id) { required = true }

-- the arguments of each command
abbrev pub arguments : Kind → List Rule
arguments transform_words =
    option_rule (codes "imports") ∷ flag_rule (codes "ignore-imports") ∷ flag_rule (codes "ignore-indirect")
    ∷ flag_rule (codes "asserts") ∷ option_rule (codes "save") ∷ placed_rule (codes "input") ∷ placed_rule (codes "output") ∷ []
arguments host_words = placed_rule (codes "script") ∷ []
arguments run_words = placed_rule (codes "script") ∷ []
arguments gen_words = placed_rule (codes "number") ∷ placed_rule (codes "output") ∷ []
arguments save_words = placed_rule (codes "script") ∷ placed_rule (codes "events") ∷ placed_rule (codes "snapshot") ∷ []
arguments continue_words = placed_rule (codes "script") ∷ placed_rule (codes "snapshot") ∷ []

-- ---- the commands, as they are made

-- a command
abbrev pub command_shape : Kind → Shape
command_shape k = record (new_shape (name_of k)) { rules = arguments k }

-- The words are all arguments; nothing asks for help, and one of the commands comes.
abbrev pub line_shape : Shape
line_shape = record (new_shape (codes "asyncify")) {
  no_binary_name = true;
  disable_help_flag = true;
  disable_help_subcommand = true;
  subcommand_required = true;
}

-- the line with its six commands
abbrev pub line : App
line =
    with_subcommand (with_subcommand (with_subcommand (with_subcommand (with_subcommand (with_subcommand (record { top = line_shape; subs = [] })
    (command_shape transform_words)) (command_shape host_words)) (command_shape run_words)) (command_shape gen_words)) (command_shape save_words))
    (command_shape continue_words)

-- ---- the same, built

-- the arguments of a command, with their places
abbrev pub rules : Kind → List Rule
rules k = filled_from 1 (arguments k)

-- a command, built
abbrev pub shape : Kind → Shape
shape k = record (command_shape k) {
  rules = rules k;
  no_binary_name = true;
  disable_help_flag = true;
  disable_help_subcommand = true;
  is_built = true;
}

-- ---- what the matches say

-- a flag's value is that it was given
abbrev pub is_true : Option Text → Bool
is_true None = false
is_true (Some text) = bytes_eq text (codes "true")

-- a flag was given
abbrev pub flag_of : Text → List Row → Bool
flag_of id rows = is_true (one_of id rows)

-- The matches tell whether a flag was given.
abbrev pub TellsFlag : Text → List Row → Type 0
TellsFlag id rows = (one_of id rows ≡ Some (codes "true")) ⊎ (one_of id rows ≡ Some (codes "false"))

-- The matches of a command tell it of each of its flags.
abbrev pub TellsFlags : Kind → List Row → Type 0
TellsFlags transform_words rows = TellsFlag (codes "ignore-imports") rows × TellsFlag (codes "ignore-indirect") rows × TellsFlag (codes "asserts") rows
TellsFlags _ rows = Unit {0}

-- the command of which these are the matches, if they are one whole
abbrev pub read_of : Kind → List Row → Option Spelled
read_of transform_words rows =
    option_map rewrites (with_files (choice_said (first_of (codes "imports") rows) (flag_of (codes "ignore-imports") rows))
    (flag_of (codes "ignore-indirect") rows) (flag_of (codes "asserts") rows) (policy_said (first_of (codes "save") rows)) (first_of (codes "input") rows)
    (first_of (codes "output") rows))
read_of host_words rows = option_map hosts (first_of (codes "script") rows)
read_of run_words rows = option_map runs (first_of (codes "script") rows)
read_of gen_words rows = number_and_file (first_of (codes "number") rows) (first_of (codes "output") rows)
read_of save_words rows = script_events_snap (first_of (codes "script") rows) (first_of (codes "events") rows) (first_of (codes "snapshot") rows)
read_of continue_words rows = script_and_snap (first_of (codes "script") rows) (first_of (codes "snapshot") rows)

-- A command and its matches spell this.
abbrev pub MatchesSpell : Option (Text × List Row) → Option Spelled → Type 0
MatchesSpell matches spelling =
    (k : Kind) × (rows : List Row) × (matches ≡ Some (name_of k, rows)) × TellsFlags k rows × (spelling ≡ read_of k rows)
