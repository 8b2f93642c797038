use Rattle.file_laws.proofs.UniqueCode.{one_file}
use Rattle.file_laws.proofs.spelling_laws.one_file_is_spelled.Goals as goal

pub returns : goal.returns
returns c = one_file
