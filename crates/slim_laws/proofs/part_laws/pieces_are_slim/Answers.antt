use Rattle.slim_laws.proofs.SlimPieces as P
use Rattle.slim_laws.proofs.part_laws.pieces_are_slim.Goals as goal

pub returns-clause-code : goal.returns-clause-code
returns-clause-code c = P.pieces_are_slim

pub returns-clause-body : goal.returns-clause-body
returns-clause-body c = P.bodies_are_slim
