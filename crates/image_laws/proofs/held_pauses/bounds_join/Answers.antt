use Rattle.image_laws.proofs.Apart.{bounds_join}
use Rattle.image_laws.proofs.held_pauses.bounds_join.Goals as goal

pub returns : goal.returns
returns c = bounds_join
