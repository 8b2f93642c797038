use Rattle.slot_laws.proofs.Few.{slots_are_few, count_fits}
use Rattle.slot_laws.proofs.slots.slots_are_few.Goals as goal

pub returns-clause-few : goal.returns-clause-few
returns-clause-few c = slots_are_few

pub returns-clause-count : goal.returns-clause-count
returns-clause-count c = count_fits
