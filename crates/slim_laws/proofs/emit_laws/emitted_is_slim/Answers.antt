use Rattle.slim_laws.proofs.EmittedCode.{emits_slim}
use Rattle.slim_laws.proofs.emit_laws.emitted_is_slim.Goals as goal

pub returns : goal.returns
returns c = emits_slim
