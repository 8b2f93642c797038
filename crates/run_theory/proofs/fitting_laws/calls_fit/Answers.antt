use Rattle.run_theory.proofs.FittingRuns.{calls_fit, answers_fit}
use Rattle.run_theory.proofs.fitting_laws.calls_fit.Goals as goal

pub returns-clause-calls : goal.returns-clause-calls
returns-clause-calls c = calls_fit

pub returns-clause-answers : goal.returns-clause-answers
returns-clause-answers c = answers_fit
