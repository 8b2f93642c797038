use Rattle.slot_laws.proofs.Closed.{is_closed, is_least}
use Rattle.slot_laws.proofs.pausing_functions.functions_that_may_pause_are_least.Goals as goal

pub returns-clause-closed : goal.returns-clause-closed
returns-clause-closed c = is_closed

pub returns-clause-least : goal.returns-clause-least
returns-clause-least c = is_least
