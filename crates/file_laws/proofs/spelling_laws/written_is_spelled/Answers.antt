use Rattle.file_laws.proofs.FileWriting.{written_spells}
use Rattle.file_laws.proofs.spelling_laws.written_is_spelled.Goals as goal

pub returns : goal.returns
returns c = written_spells
