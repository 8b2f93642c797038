use Rattle.run_laws.proofs.BlockingRuns.{well_formed_in}
use Rattle.run_laws.proofs.ProtocolRuns.{fits_in, fits_areas}
use Rattle.run_laws.proofs.ranges.plans_in_range.Goals as goal

pub returns-clause-values : goal.returns-clause-values
returns-clause-values c = fits_in

pub returns-clause-areas : goal.returns-clause-areas
returns-clause-areas c = fits_areas

pub returns-clause-modules : goal.returns-clause-modules
returns-clause-modules c = well_formed_in
