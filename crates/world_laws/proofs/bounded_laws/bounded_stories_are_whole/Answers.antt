use Rattle.world_laws.proofs.Bounded.{bounded_are_whole}
use Rattle.world_laws.proofs.bounded_laws.bounded_stories_are_whole.Goals as goal

pub returns : goal.returns
returns c = bounded_are_whole
