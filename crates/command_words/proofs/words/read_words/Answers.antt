-- Where the parse fails, and not for want of memory, the words spell nothing.
use Rattle.std.proofs.Common.{map, string_bytes}
use Rattle.script_model.specs.Spelled.{spelled}
use Rattle.command_words.proofs.Failing.{fails_as}
use Rattle.command_words.proofs.words.read_words.Goals as goal

pub returns-in-Err-clause-command : goal.returns-in-Err-clause-command
returns-in-Err-clause-command c = fails_as c.parse_fault.result (spelled (map string_bytes c.args.words.now)) c.in-Err.error c.in-Err.ensures.fails c.parse_fault.ensures
