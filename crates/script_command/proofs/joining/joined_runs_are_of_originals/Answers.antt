use Rattle.script_command.proofs.JoinedRuns.{joined_runs}
use Rattle.script_command.proofs.joining.joined_runs_are_of_originals.Goals as goal

pub returns : goal.returns
returns c = joined_runs
