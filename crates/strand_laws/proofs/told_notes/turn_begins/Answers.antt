use Rattle.strand_laws.proofs.StrandNotes.{turn_begins}
use Rattle.strand_laws.proofs.told_notes.turn_begins.Goals as goal

pub returns : goal.returns
returns c = turn_begins
