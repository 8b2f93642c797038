use Rattle.strand_laws.proofs.ToldGoesOn.{worlds_end}
use Rattle.strand_laws.proofs.told_worlds.strand_worlds_end.Goals as goal

pub returns : goal.returns
returns c = worlds_end
