use Rattle.strand_laws.proofs.StrandWorlds.{bounded_worlds_held}
use Rattle.strand_laws.proofs.original_worlds.bounded_worlds_are_held.Goals as goal

pub returns : goal.returns
returns c = bounded_worlds_held
