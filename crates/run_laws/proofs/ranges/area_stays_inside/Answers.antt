use Rattle.run_laws.proofs.BlockingRuns.{blocking_area}
use Rattle.run_laws.proofs.ProtocolRuns.{protocol_area}
use Rattle.run_laws.proofs.ranges.area_stays_inside.Goals as goal

pub returns-clause-blocking : goal.returns-clause-blocking
returns-clause-blocking c = blocking_area

pub returns-clause-protocol : goal.returns-clause-protocol
returns-clause-protocol c = protocol_area
