use Rattle.image_laws.proofs.Joined.{whole_bound}
use Rattle.image_laws.proofs.held_pauses.whole_bound.Goals as goal

pub returns : goal.returns
returns c = whole_bound
