use Rattle.file_laws.proofs.SpelledFits.{spelled_fits}
use Rattle.file_laws.proofs.spelling_laws.spelled_is_well_formed.Goals as goal

pub returns : goal.returns
returns c = spelled_fits
