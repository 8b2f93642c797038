use Rattle.flat_runs.proofs.Reductions as R
use Rattle.flat_runs.proofs.followed_stretches.stretches_are_followed.Goals as goal

pub returns-clause-far : goal.returns-clause-far
returns-clause-far c = λ m p which a b d n w be go. R.each_stretch m p which w a b d n _ be go

pub returns-clause-go : goal.returns-clause-go
returns-clause-go c = λ p first a d cost lean st. R.stretch_goes p first a d cost lean st
