use Rattle.run_laws.proofs.ListedRuns.{blocking_as_told}
use Rattle.run_laws.proofs.listed_pauses.blocking_runs_are_as_told.Goals as goal

pub returns : goal.returns
returns c = blocking_as_told
