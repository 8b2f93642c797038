use Rattle.run_laws.proofs.Keeping.{kept_while_busy, kept_aside, kept_blocking}
use Rattle.run_laws.proofs.stretch_laws.stretches_are_kept.Goals as goal

pub returns-clause-busy : goal.returns-clause-busy
returns-clause-busy c = kept_while_busy

pub returns-clause-aside : goal.returns-clause-aside
returns-clause-aside c = kept_aside

pub returns-clause-blocking : goal.returns-clause-blocking
returns-clause-blocking c = kept_blocking
