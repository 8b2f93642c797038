-- What was parsed says what the words spell.
use Rattle.std.proofs.Common.{map, string_bytes}
use Rattle.clap.specs.Words.{app_of}
use Rattle.command_words.proofs.Exact.{all_text}
use Rattle.command_words.proofs.Meanings.{both_ways}
use Rattle.command_words.proofs.line.parse_line.Goals as goal

pub returns : goal.returns
returns c =
    let said = both_ways (app_of c.in_ok-line.line) (map string_bytes c.args.words.now) (all_text c.args.words.now) c.in_ok-line.ensures c.try_get_matches_from.result
    c.try_get_matches_from.ensures.matches c.try_get_matches_from.ensures.kinds in
    record { spells = said.0; fails = said.1 }
