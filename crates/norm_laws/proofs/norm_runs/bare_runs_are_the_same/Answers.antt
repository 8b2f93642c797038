use Rattle.norm_laws.proofs.BareRuns.{bare_steps, bare_blocking, bare_protocol}
use Rattle.norm_laws.proofs.norm_runs.bare_runs_are_the_same.Goals as goal

pub returns-clause-steps : goal.returns-clause-steps
returns-clause-steps c = bare_steps

pub returns-clause-blocking : goal.returns-clause-blocking
returns-clause-blocking c = bare_blocking

pub returns-clause-protocol : goal.returns-clause-protocol
returns-clause-protocol c = bare_protocol
