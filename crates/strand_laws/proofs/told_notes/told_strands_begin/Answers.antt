use Rattle.strand_laws.proofs.StrandNotes.{told_begin}
use Rattle.strand_laws.proofs.told_notes.told_strands_begin.Goals as goal

pub returns : goal.returns
returns c = told_begin
