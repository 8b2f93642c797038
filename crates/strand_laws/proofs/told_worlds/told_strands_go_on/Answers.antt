use Rattle.strand_laws.proofs.ToldGoesOn.{told_goes_on}
use Rattle.strand_laws.proofs.told_worlds.told_strands_go_on.Goals as goal

pub returns : goal.returns
returns c = told_goes_on
