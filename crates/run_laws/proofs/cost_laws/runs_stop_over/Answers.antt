use Rattle.run_laws.proofs.Stopping.{blocking_states_stop, blocking_stops_over}
use Rattle.run_laws.proofs.ProtocolStopping.{protocol_states_stop, protocol_stops_over}
use Rattle.run_laws.proofs.cost_laws.runs_stop_over.Goals as goal

pub returns-clause-blocking_states : goal.returns-clause-blocking_states
returns-clause-blocking_states c = blocking_states_stop

pub returns-clause-protocol_states : goal.returns-clause-protocol_states
returns-clause-protocol_states c = protocol_states_stop

pub returns-clause-blocking : goal.returns-clause-blocking
returns-clause-blocking c = blocking_stops_over

pub returns-clause-protocol : goal.returns-clause-protocol
returns-clause-protocol c = protocol_stops_over
