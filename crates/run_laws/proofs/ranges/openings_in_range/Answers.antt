use Rattle.run_laws.proofs.Openings.{openings_in}
use Rattle.run_laws.proofs.ranges.openings_in_range.Goals as goal

pub returns : goal.returns
returns c = openings_in
