use Rattle.run_laws.proofs.Stopping.{blocking_states_stay, blocking_runs_fit}
use Rattle.run_laws.proofs.ProtocolStopping.{protocol_states_stay, protocol_runs_fit}
use Rattle.run_laws.proofs.cost_laws.states_stay_fitting.Goals as goal

pub returns-clause-blocking_moves : goal.returns-clause-blocking_moves
returns-clause-blocking_moves c = blocking_states_stay

pub returns-clause-protocol_moves : goal.returns-clause-protocol_moves
returns-clause-protocol_moves c = protocol_states_stay

pub returns-clause-blocking : goal.returns-clause-blocking
returns-clause-blocking c = blocking_runs_fit

pub returns-clause-protocol : goal.returns-clause-protocol
returns-clause-protocol c = protocol_runs_fit
