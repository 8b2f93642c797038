use Rattle.assert_laws.proofs.Running as T
use Rattle.assert_laws.proofs.tested_runs.calls_begin.Goals as goal

pub returns : goal.returns
returns c = T.calls_begin
