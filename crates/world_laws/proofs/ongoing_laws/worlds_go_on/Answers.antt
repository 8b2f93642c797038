use Rattle.world_laws.proofs.GoingOn.{worlds_go_on}
use Rattle.world_laws.proofs.ongoing_laws.worlds_go_on.Goals as goal

pub returns : goal.returns
returns c = worlds_go_on
