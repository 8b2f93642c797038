use Rattle.script_command.proofs.Hosted.{hosts_of_originals}
use Rattle.script_command.proofs.laws.hosts_are_of_originals.Goals as goal

pub returns : goal.returns
returns c = hosts_of_originals
