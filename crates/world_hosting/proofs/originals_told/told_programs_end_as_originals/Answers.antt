use Rattle.world_hosting.proofs.Endings.{told_ends}
use Rattle.world_hosting.proofs.originals_told.told_programs_end_as_originals.Goals as goal

pub returns : goal.returns
returns c = told_ends
