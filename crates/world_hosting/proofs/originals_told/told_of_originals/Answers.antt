use Rattle.world_hosting.proofs.Originals.{told_of_originals}
use Rattle.world_hosting.proofs.originals_told.told_of_originals.Goals as goal

pub returns : goal.returns
returns c = told_of_originals
