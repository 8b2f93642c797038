use Rattle.assert_laws.proofs.Running as T
use Rattle.assert_laws.proofs.tested_runs.answers_go_on.Goals as goal

pub returns : goal.returns
returns c = T.answers_go_on
