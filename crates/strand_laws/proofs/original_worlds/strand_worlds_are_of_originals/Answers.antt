use Rattle.strand_laws.proofs.StrandWorlds.{worlds_of_originals}
use Rattle.strand_laws.proofs.original_worlds.strand_worlds_are_of_originals.Goals as goal

pub returns : goal.returns
returns c = worlds_of_originals
