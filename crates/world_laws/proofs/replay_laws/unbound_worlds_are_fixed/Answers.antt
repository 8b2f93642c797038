use Rattle.world_laws.proofs.Replays.{unbound_fix_lines}
use Rattle.world_laws.proofs.replay_laws.unbound_worlds_are_fixed.Goals as goal

pub returns : goal.returns
returns c = unbound_fix_lines
