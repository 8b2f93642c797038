use Rattle.strand_laws.proofs.StrandNotes.{turn_goes_on}
use Rattle.strand_laws.proofs.told_notes.turn_goes_on.Goals as goal

pub returns : goal.returns
returns c = turn_goes_on
