use Rattle.run_laws.proofs.ListedRuns.{protocol_as_told}
use Rattle.run_laws.proofs.listed_pauses.protocol_runs_are_as_told.Goals as goal

pub returns : goal.returns
returns c = protocol_as_told
