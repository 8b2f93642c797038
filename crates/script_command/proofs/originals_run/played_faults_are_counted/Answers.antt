use Rattle.script_command.proofs.Played.{played_faults}
use Rattle.script_command.proofs.originals_run.played_faults_are_counted.Goals as goal

pub returns : goal.returns
returns c = played_faults
