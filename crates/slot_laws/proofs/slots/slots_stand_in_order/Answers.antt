use Rattle.slot_laws.proofs.Results.{results_ascend, results_once, slots_ascend}
use Rattle.slot_laws.proofs.SavedOperands.{slots_once}
use Rattle.slot_laws.proofs.slots.slots_stand_in_order.Goals as goal

pub returns-clause-slots : goal.returns-clause-slots
returns-clause-slots c = slots_ascend

pub returns-clause-slots_once : goal.returns-clause-slots_once
returns-clause-slots_once c = slots_once

pub returns-clause-results : goal.returns-clause-results
returns-clause-results c = results_ascend

pub returns-clause-results_once : goal.returns-clause-results_once
returns-clause-results_once c = results_once
