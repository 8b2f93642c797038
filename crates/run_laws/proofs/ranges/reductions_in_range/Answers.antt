use Rattle.run_laws.proofs.Steps.{step_in}
use Rattle.run_laws.proofs.Stretches.{stretches_in, ends_in}
use Rattle.run_laws.proofs.ranges.reductions_in_range.Goals as goal

pub returns-clause-steps : goal.returns-clause-steps
returns-clause-steps c = λ m low d w h. step_in low m w d h

pub returns-clause-stretches : goal.returns-clause-stretches
returns-clause-stretches c = stretches_in

pub returns-clause-ends : goal.returns-clause-ends
returns-clause-ends c = ends_in
