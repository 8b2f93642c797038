use Rattle.run_theory.proofs.FittingOpenings as o
use Rattle.run_theory.proofs.fitting_laws.openings_fit.Goals as goal

pub returns : goal.returns
returns c = o.openings_fit
