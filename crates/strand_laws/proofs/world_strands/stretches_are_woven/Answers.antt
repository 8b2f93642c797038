use Rattle.strand_laws.proofs.Stretches.{stretches}
use Rattle.strand_laws.proofs.world_strands.stretches_are_woven.Goals as goal

pub returns : goal.returns
returns c = stretches
