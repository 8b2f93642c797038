use Rattle.slot_laws.proofs.Closed.{some_list, one_list}
use Rattle.slot_laws.proofs.pausing_functions.one_list_tells.Goals as goal

pub returns-clause-some : goal.returns-clause-some
returns-clause-some c = some_list

pub returns-clause-one : goal.returns-clause-one
returns-clause-one c = one_list
