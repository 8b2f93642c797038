use Rattle.run_laws.proofs.BlockingRuns.{blocking_in}
use Rattle.run_laws.proofs.ProtocolRuns.{protocol_in, compared_in}
use Rattle.run_laws.proofs.ranges.runs_in_range.Goals as goal

pub returns-clause-blocking : goal.returns-clause-blocking
returns-clause-blocking c = blocking_in

pub returns-clause-protocol : goal.returns-clause-protocol
returns-clause-protocol c = protocol_in

pub returns-clause-compared : goal.returns-clause-compared
returns-clause-compared c = compared_in
