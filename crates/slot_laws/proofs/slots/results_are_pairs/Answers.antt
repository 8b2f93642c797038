use Rattle.slot_laws.proofs.Results.{results_pairs}
use Rattle.slot_laws.proofs.slots.results_are_pairs.Goals as goal

pub returns : goal.returns
returns c = results_pairs
