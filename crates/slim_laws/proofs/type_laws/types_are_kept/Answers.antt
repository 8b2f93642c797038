use Rattle.slim_laws.proofs.KeptTypes as T
use Rattle.slim_laws.proofs.type_laws.types_are_kept.Goals as goal

pub returns-clause-code : goal.returns-clause-code
returns-clause-code c = T.types_are_kept

pub returns-clause-body : goal.returns-clause-body
returns-clause-body c = T.bodies_are_typed
