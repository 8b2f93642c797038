use Rattle.strand_laws.proofs.ThreeToTheEnd.{three_tell_all}
use Rattle.strand_laws.proofs.original_worlds.three_strands_end.Goals as goal

pub returns : goal.returns
returns c = three_tell_all
