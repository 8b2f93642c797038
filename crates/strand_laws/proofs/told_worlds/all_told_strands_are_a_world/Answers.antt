use Rattle.strand_laws.proofs.ToldWorlds.{all_told_is_world}
use Rattle.strand_laws.proofs.told_worlds.all_told_strands_are_a_world.Goals as goal

pub returns : goal.returns
returns c = all_told_is_world
