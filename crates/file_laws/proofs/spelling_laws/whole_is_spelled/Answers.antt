use Rattle.file_laws.proofs.FileReads.{whole_spelled, spelled_whole}
use Rattle.file_laws.proofs.spelling_laws.whole_is_spelled.Goals as goal

pub returns-clause-sound : goal.returns-clause-sound
returns-clause-sound c = whole_spelled

pub returns-clause-complete : goal.returns-clause-complete
returns-clause-complete c = spelled_whole
