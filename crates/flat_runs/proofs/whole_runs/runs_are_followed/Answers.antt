use Rattle.flat_runs.proofs.Lean as L
use Rattle.flat_runs.proofs.Whole as W
use Rattle.flat_laws.proofs.Sizes as S
use Rattle.std.proofs.Common.{arith}
use Rattle.flat_runs.proofs.whole_runs.runs_are_followed.Goals as goal

pub returns-clause-follows : goal.returns-clause-follows
returns-clause-follows c = λ m which plan os n v fits. W.flat_follows m which plan os v fits n

pub returns-clause-reaches : goal.returns-clause-reaches
returns-clause-reaches c = λ m which plan os i v fits. W.flat_reaches m which plan os v fits i

pub returns-clause-less : goal.returns-clause-less
returns-clause-less c = λ m p plan os n. L.lean_is_less m p plan os n

pub returns-clause-weighs : goal.returns-clause-weighs
returns-clause-weighs c = λ m x f. let a = S.flat_is_small m x f in omega arith
