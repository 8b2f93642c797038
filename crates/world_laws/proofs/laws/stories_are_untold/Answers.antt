use Rattle.world_laws.proofs.Untold.{stories_untold}
use Rattle.world_laws.proofs.laws.stories_are_untold.Goals as goal

pub returns : goal.returns
returns c = stories_untold
