use Rattle.run_theory.proofs.FittingSteps.{steps_fit}
use Rattle.run_theory.proofs.FittingRuns.{leads_fit, ends_fit}
use Rattle.run_theory.proofs.fitting_laws.reductions_fit.Goals as goal

pub returns-clause-steps : goal.returns-clause-steps
returns-clause-steps c = steps_fit

pub returns-clause-stretches : goal.returns-clause-stretches
returns-clause-stretches c = λ m outs d e cost v h l. leads_fit m v outs d e cost _ h l

pub returns-clause-ends : goal.returns-clause-ends
returns-clause-ends c = λ m outs d left used end v h e. ends_fit m v outs d left used end h e
