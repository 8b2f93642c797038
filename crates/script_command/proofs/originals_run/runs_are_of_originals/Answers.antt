use Rattle.script_command.proofs.Runs.{runs_of_originals}
use Rattle.script_command.proofs.originals_run.runs_are_of_originals.Goals as goal

pub returns : goal.returns
returns c = runs_of_originals
