use Rattle.strand_host.proofs.StandingEnds.{due_fits}
use Rattle.strand_host.proofs.standings.dues_fit.Goals as goal

pub returns : goal.returns
returns c = due_fits
