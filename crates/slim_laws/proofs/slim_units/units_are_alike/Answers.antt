use Rattle.slim_laws.proofs.UnitSizes.{slimmer_law}
use Rattle.slim_laws.proofs.UnitsAlike.{alike_law, calls_law}
use Rattle.slim_laws.proofs.UnitsPassed.{passing_law}
use Rattle.slim_laws.proofs.slim_units.units_are_alike.Goals as goal

pub returns-clause-alike : goal.returns-clause-alike
returns-clause-alike c = alike_law

pub returns-clause-calls : goal.returns-clause-calls
returns-clause-calls c = calls_law

pub returns-clause-slimmer : goal.returns-clause-slimmer
returns-clause-slimmer c = slimmer_law

pub returns-clause-passing : goal.returns-clause-passing
returns-clause-passing c = passing_law
