use Rattle.slim_laws.proofs.UnitsTyped.{typed_law}
use Rattle.slim_laws.proofs.slim_units.units_stay_typed.Goals as goal

pub returns : goal.returns
returns c = typed_law
