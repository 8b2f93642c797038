use Rattle.script_command.proofs.SavedSnapshots.{saved_suits}
use Rattle.script_command.proofs.joining.saved_snapshots_suit.Goals as goal

pub returns : goal.returns
returns c = saved_suits
