use Rattle.run_theory.proofs.FittingSteps as s
use Rattle.run_theory.proofs.fitting_laws.heights_within.Goals as goal

pub returns : goal.returns
returns c = s.heights_within
