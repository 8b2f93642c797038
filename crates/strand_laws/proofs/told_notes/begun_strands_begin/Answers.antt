use Rattle.strand_laws.proofs.BegunTurns.{begun_begin}
use Rattle.strand_laws.proofs.told_notes.begun_strands_begin.Goals as goal

pub returns : goal.returns
returns c = begun_begin
