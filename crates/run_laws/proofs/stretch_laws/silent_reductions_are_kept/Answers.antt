use Rattle.run_laws.proofs.Silence.{silent_is_kept, silent_stores_stay}
use Rattle.run_laws.proofs.stretch_laws.silent_reductions_are_kept.Goals as goal

pub returns-clause-kept : goal.returns-clause-kept
returns-clause-kept c = silent_is_kept

pub returns-clause-stores : goal.returns-clause-stores
returns-clause-stores c = silent_stores_stay
