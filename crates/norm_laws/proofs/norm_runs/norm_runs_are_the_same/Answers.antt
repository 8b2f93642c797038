use Rattle.norm_laws.proofs.Norms.{norm_blocking, norm_protocol}
use Rattle.norm_laws.proofs.norm_runs.norm_runs_are_the_same.Goals as goal

pub returns-clause-blocking : goal.returns-clause-blocking
returns-clause-blocking c = norm_blocking

pub returns-clause-protocol : goal.returns-clause-protocol
returns-clause-protocol c = norm_protocol
