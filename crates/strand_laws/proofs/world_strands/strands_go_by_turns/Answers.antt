use Rattle.strand_laws.proofs.AllByTurns.{all_go_by_turns}
use Rattle.strand_laws.proofs.world_strands.strands_go_by_turns.Goals as goal

pub returns : goal.returns
returns c = all_go_by_turns
