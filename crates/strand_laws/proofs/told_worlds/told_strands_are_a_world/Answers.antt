use Rattle.strand_laws.proofs.ToldWorlds.{told_is_world}
use Rattle.strand_laws.proofs.told_worlds.told_strands_are_a_world.Goals as goal

pub returns : goal.returns
returns c = told_is_world
