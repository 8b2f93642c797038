use Rattle.strand_laws.proofs.StrandNotes.{nothing_told}
use Rattle.strand_laws.proofs.told_notes.nothing_is_told.Goals as goal

pub returns : goal.returns
returns c = nothing_told
