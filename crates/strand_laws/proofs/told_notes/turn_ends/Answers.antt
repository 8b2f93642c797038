use Rattle.strand_laws.proofs.StrandNotes.{turn_ends}
use Rattle.strand_laws.proofs.told_notes.turn_ends.Goals as goal

pub returns : goal.returns
returns c = turn_ends
