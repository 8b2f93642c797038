use Rattle.run_laws.proofs.Ending.{blocking_end_last, expected_end_last, protocol_end_last}
use Rattle.run_laws.proofs.cost_laws.ends_are_last.Goals as goal

pub returns-clause-blocking : goal.returns-clause-blocking
returns-clause-blocking c = blocking_end_last

pub returns-clause-expected : goal.returns-clause-expected
returns-clause-expected c = expected_end_last

pub returns-clause-protocol : goal.returns-clause-protocol
returns-clause-protocol c = protocol_end_last
