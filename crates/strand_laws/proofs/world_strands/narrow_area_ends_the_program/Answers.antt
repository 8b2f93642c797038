use Rattle.strand_laws.proofs.StrandLines.{narrow_tells}
use Rattle.strand_laws.proofs.world_strands.narrow_area_ends_the_program.Goals as goal

pub returns : goal.returns
returns c = narrow_tells
