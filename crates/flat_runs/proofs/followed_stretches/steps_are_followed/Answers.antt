use Rattle.flat_runs.proofs.Shapes as S
use Rattle.flat_runs.proofs.followed_stretches.steps_are_followed.Goals as goal

pub returns-clause-each : goal.returns-clause-each
returns-clause-each c = λ m p which a b w be. S.each_reduction m p which w a b be

pub returns-clause-quiet : goal.returns-clause-quiet
returns-clause-quiet c = λ p a d k q e. (S.quiet_store p a d k q e, S.quiet_reach a.here.operands a.here.code q)

pub returns-clause-same : goal.returns-clause-same
returns-clause-same c = λ a at sa. S.same_reach a at sa
