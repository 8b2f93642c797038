use Rattle.strand_laws.proofs.Turns.{three_take_turns}
use Rattle.strand_laws.proofs.emitted_strands.three_strands_take_turns.Goals as goal

pub returns : goal.returns
returns c = three_take_turns
