use Rattle.slim_laws.proofs.Running.{waits_with_any, waiting_agrees}
use Rattle.slim_laws.proofs.step_laws.stacks_wait.Goals as goal

pub returns-clause-agreeing : goal.returns-clause-agreeing
returns-clause-agreeing c = waiting_agrees

pub returns-clause-any : goal.returns-clause-any
returns-clause-any c = waits_with_any
