use Rattle.strand_laws.proofs.Emitted.{strands_of_emitted}
use Rattle.strand_laws.proofs.emitted_strands.strands_of_emitted.Goals as goal

pub returns : goal.returns
returns c = strands_of_emitted
