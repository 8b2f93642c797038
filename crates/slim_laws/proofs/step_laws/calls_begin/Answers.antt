use Rattle.slim_laws.proofs.Running as T
use Rattle.slim_laws.proofs.step_laws.calls_begin.Goals as goal

pub returns : goal.returns
returns c = T.calls_begin
