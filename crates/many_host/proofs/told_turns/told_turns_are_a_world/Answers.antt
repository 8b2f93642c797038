use Rattle.many_host.proofs.Telling.{told_is_world}
use Rattle.many_host.proofs.told_turns.told_turns_are_a_world.Goals as goal

pub returns : goal.returns
returns c = told_is_world
