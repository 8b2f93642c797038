use Rattle.slim_laws.proofs.Running as T
use Rattle.slim_laws.proofs.step_laws.answers_go_on.Goals as goal

pub returns : goal.returns
returns c = T.answers_go_on
