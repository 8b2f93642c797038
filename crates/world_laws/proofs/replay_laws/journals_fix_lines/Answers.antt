use Rattle.world_laws.proofs.Replays.{journals_fix_lines}
use Rattle.world_laws.proofs.replay_laws.journals_fix_lines.Goals as goal

pub returns : goal.returns
returns c = journals_fix_lines
