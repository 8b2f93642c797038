use Rattle.strand_laws.proofs.Numbered.{pauses_at_numbers}
use Rattle.strand_laws.proofs.emitted_strands.strand_pauses_at_numbers.Goals as goal

pub returns : goal.returns
returns c = pauses_at_numbers
