use Rattle.script_command.proofs.SavedSnapshots.{saved_are_taken}
use Rattle.script_command.proofs.joining.saved_snapshots_are_taken.Goals as goal

pub returns : goal.returns
returns c = saved_are_taken
