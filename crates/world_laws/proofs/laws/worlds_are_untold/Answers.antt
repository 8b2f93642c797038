use Rattle.world_laws.proofs.Untold.{worlds_untold}
use Rattle.world_laws.proofs.laws.worlds_are_untold.Goals as goal

pub returns : goal.returns
returns c = worlds_untold
