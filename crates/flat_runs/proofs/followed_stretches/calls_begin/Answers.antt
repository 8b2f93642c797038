use Rattle.flat_runs.proofs.Reductions as R
use Rattle.flat_runs.proofs.followed_stretches.calls_begin.Goals as goal

pub returns : goal.returns
returns c = λ m p which s args g h h2 w fits e e2 et. R.calls_begin m p which w s args g h h2 fits e e2 et
