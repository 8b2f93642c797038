use Rattle.host_laws.proofs.Alone.{story_is_world}
use Rattle.host_laws.proofs.laws.stories_are_worlds.Goals as goal

pub returns : goal.returns
returns c = story_is_world
