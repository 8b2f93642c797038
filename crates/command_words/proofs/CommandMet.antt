-- The command that was met, by its name and its matches.
use Rattle.std.proofs.Common.{◌≡◌, ◌∙◌, List, Option, Some, None, option_map, refl}
use Rattle.std.specs.Prelude.{Box}
use Rattle.std.specs.Box.{box_value}
use Rattle.clap.specs.Walk.{Row}
use Rattle.clap.specs.Simple.{subcommand_rows, subcommand_rows_of}
use Rattle.clap.specs.Matches.{subcommand_name_of}
use Rattle.clap.specs.declared.parser.matches.ArgMatches.{ArgMatches}
use Rattle.clap.specs.declared.parser.matches.SubCommand.{SubCommand}
use Rattle.clap.specs.declared.parser.matches.ArgMatches.TheViews.{out-ArgMatches, out-SubCommand}
use Rattle.script_model.specs.Spelled.{Spelled}
use Rattle.command_words.specs.Grammar.{Kind, MatchesSpell, name_of, read_of}
use Rattle.command_words.proofs.Meanings.{command_read, name_in, rows_in}

module _ {Z : Type 0} where
  same_name : (sub : Option (Box SubCommand Z)) → name_in (subcommand_rows sub) ≡ option_map (λ b. (out-SubCommand (box_value b)).name.now) sub
  same_name None = refl
  same_name (Some b) = refl

-- the matches of the command of this name say what is spelled
pub met_spells : (k : Kind) (m : ArgMatches) (rows : List Row) (spelling : Option Spelled) → MatchesSpell (subcommand_rows_of m) spelling → subcommand_name_of m ≡ Some (name_of k)
    → rows_in (subcommand_rows_of m) ≡ Some rows → spelling ≡ read_of k rows
met_spells k m rows spelling h name here = (command_read k rows (subcommand_rows_of m) spelling h (same_name (out-ArgMatches m).subcommand ∙ name) here).1
