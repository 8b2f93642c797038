use Rattle.slim_laws.proofs.EmittedCode.{same_slim}
use Rattle.slim_laws.proofs.emit_laws.code_is_slim_beside_itself.Goals as goal

pub returns : goal.returns
returns c = same_slim
