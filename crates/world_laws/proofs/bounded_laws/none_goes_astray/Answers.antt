use Rattle.world_laws.proofs.Astray.{none_astray}
use Rattle.world_laws.proofs.bounded_laws.none_goes_astray.Goals as goal

pub returns : goal.returns
returns c = none_astray
