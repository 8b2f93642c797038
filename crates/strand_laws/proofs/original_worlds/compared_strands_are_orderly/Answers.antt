use Rattle.strand_laws.proofs.StrandWorlds.{compared_are_orderly}
use Rattle.strand_laws.proofs.original_worlds.compared_strands_are_orderly.Goals as goal

pub returns : goal.returns
returns c = compared_are_orderly
