use Rattle.strand_laws.proofs.StrandLines.{summing_tells}
use Rattle.strand_laws.proofs.world_strands.strands_share_a_store.Goals as goal

pub returns : goal.returns
returns c = summing_tells
