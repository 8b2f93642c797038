-- The matches of a command say what it names.
use Rattle.std.proofs.Common.{◌∙◌, refl, subst, sym}
use Rattle.clap.specs.Words.{found_of, rows_of}
use Rattle.command_words.specs.Grammar.{gen_words, host_words, run_words, save_words}
use Rattle.command_words.specs.Words.{Reads, spelled_of}
use Rattle.command_words.proofs.CommandMet.{met_spells}
use Rattle.command_words.proofs.words.command_from.Goals as goal

pub returns-in-Some-subcommand_matches-clause-command : goal.returns-in-Some-subcommand_matches-clause-command
returns-in-Some-subcommand_matches-clause-command c =
    λ spelling h. let met = c.in-Some-subcommand_matches in
    met_spells host_words c.args.matches.now (rows_of (found_of met.matches.now)) spelling h (met.ensures.found.0 refl) met.ensures.rows ∙ c.in_ok-script.ensures.hosts

pub returns-in-Some-subcommand_matches-2-clause-command : goal.returns-in-Some-subcommand_matches-2-clause-command
returns-in-Some-subcommand_matches-2-clause-command c =
    λ spelling h. let met = c.in-Some-subcommand_matches-2 in
    met_spells run_words c.args.matches.now (rows_of (found_of met.matches.now)) spelling h (met.ensures.found.0 refl) met.ensures.rows ∙ c.in_ok-script-2.ensures.runs

pub returns-in-Some-subcommand_matches-3-clause-command : goal.returns-in-Some-subcommand_matches-3-clause-command
returns-in-Some-subcommand_matches-3-clause-command c =
    λ spelling h. let met = c.in-Some-subcommand_matches-3 in
    subst (Reads spelled_of c.generate_from.result) (sym (met_spells gen_words c.args.matches.now (rows_of (found_of met.matches.now)) spelling h (met.ensures.found.0 refl) met.ensures.rows))
    c.generate_from.ensures.command

pub returns-in-Some-subcommand_matches-4-clause-command : goal.returns-in-Some-subcommand_matches-4-clause-command
returns-in-Some-subcommand_matches-4-clause-command c =
    λ spelling h. let met = c.in-Some-subcommand_matches-4 in
    subst (Reads spelled_of c.save_from.result) (sym (met_spells save_words c.args.matches.now (rows_of (found_of met.matches.now)) spelling h (met.ensures.found.0 refl) met.ensures.rows))
    c.save_from.ensures.command
