use Rattle.strand_laws.proofs.StrandLines.{dividing_tells}
use Rattle.strand_laws.proofs.world_strands.trap_ends_its_strand.Goals as goal

pub returns : goal.returns
returns c = dividing_tells
