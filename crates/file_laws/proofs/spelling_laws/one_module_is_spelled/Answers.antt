use Rattle.file_laws.proofs.OneModule.{one_spelled}
use Rattle.file_laws.proofs.spelling_laws.one_module_is_spelled.Goals as goal

pub returns : goal.returns
returns c = one_spelled
