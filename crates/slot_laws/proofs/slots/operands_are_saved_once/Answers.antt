use Rattle.slot_laws.proofs.SavedOperands.{saved_rise, operands_saved}
use Rattle.slot_laws.proofs.Wanted.{operands_wanted}
use Rattle.slot_laws.proofs.slots.operands_are_saved_once.Goals as goal

pub returns-clause-order : goal.returns-clause-order
returns-clause-order c = λ m policy f place. saved_rise m f policy place

pub returns-clause-operands : goal.returns-clause-operands
returns-clause-operands c = operands_saved

pub returns-clause-wanted : goal.returns-clause-wanted
returns-clause-wanted c = operands_wanted
