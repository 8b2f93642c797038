use Rattle.many_host.proofs.Telling.{all_told_is_world}
use Rattle.many_host.proofs.told_turns.all_told_is_a_world.Goals as goal

pub returns : goal.returns
returns c = all_told_is_world
