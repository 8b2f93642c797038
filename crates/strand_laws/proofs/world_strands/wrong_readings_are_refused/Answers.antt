use Rattle.strand_laws.proofs.StrandLines.{readings}
use Rattle.strand_laws.proofs.world_strands.wrong_readings_are_refused.Goals as goal

pub returns : goal.returns
returns c = readings
