use Rattle.many_host.proofs.Worlds.{told_begins_world}
use Rattle.many_host.proofs.laws.told_lines_begin_a_world.Goals as goal

pub returns : goal.returns
returns c = told_begins_world
