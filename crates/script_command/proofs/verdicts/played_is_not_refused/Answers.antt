use Rattle.script_command.proofs.WholeScripts.{played_not_refused}
use Rattle.script_command.proofs.verdicts.played_is_not_refused.Goals as goal

pub returns : goal.returns
returns c = played_not_refused
