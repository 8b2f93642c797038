use Rattle.slim_laws.proofs.UnitsSlim.{body_law, units_law}
use Rattle.slim_laws.proofs.slim_units.units_are_slim.Goals as goal

pub returns-clause-code : goal.returns-clause-code
returns-clause-code c = units_law

pub returns-clause-body : goal.returns-clause-body
returns-clause-body c = body_law
