use Rattle.slim_laws.proofs.KeptSizes as Z
use Rattle.slim_laws.proofs.size_laws.sizes_are_kept.Goals as goal

pub returns-clause-count : goal.returns-clause-count
returns-clause-count c = Z.larger

pub returns-clause-depth : goal.returns-clause-depth
returns-clause-depth c = Z.deeper

pub returns-clause-others : goal.returns-clause-others
returns-clause-others c = Z.others

pub returns-clause-calls : goal.returns-clause-calls
returns-clause-calls c = Z.same_calls
