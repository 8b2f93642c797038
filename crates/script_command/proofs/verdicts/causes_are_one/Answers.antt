use Rattle.script_command.proofs.WholeScripts.{one_cause}
use Rattle.script_command.proofs.verdicts.causes_are_one.Goals as goal

pub returns : goal.returns
returns c = one_cause
