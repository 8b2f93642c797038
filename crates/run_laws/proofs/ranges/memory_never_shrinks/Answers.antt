use Rattle.run_laws.proofs.BlockingRuns.{blocking_grows, blocking_later}
use Rattle.run_laws.proofs.ProtocolRuns.{protocol_grows, protocol_later}
use Rattle.run_laws.proofs.ranges.memory_never_shrinks.Goals as goal

pub returns-clause-blocking_moves : goal.returns-clause-blocking_moves
returns-clause-blocking_moves c = blocking_grows

pub returns-clause-protocol_moves : goal.returns-clause-protocol_moves
returns-clause-protocol_moves c = protocol_grows

pub returns-clause-blocking : goal.returns-clause-blocking
returns-clause-blocking c = blocking_later

pub returns-clause-protocol : goal.returns-clause-protocol
returns-clause-protocol c = protocol_later
