use Rattle.strand_laws.proofs.StrandWorlds.{emitted_are_rewritten}
use Rattle.strand_laws.proofs.original_worlds.emitted_strands_stand_in.Goals as goal

pub returns : goal.returns
returns c = emitted_are_rewritten
