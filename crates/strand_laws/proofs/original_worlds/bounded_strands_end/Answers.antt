use Rattle.strand_laws.proofs.StrandStories.{bounded_strands_end}
use Rattle.strand_laws.proofs.original_worlds.bounded_strands_end.Goals as goal

pub returns : goal.returns
returns c = bounded_strands_end
