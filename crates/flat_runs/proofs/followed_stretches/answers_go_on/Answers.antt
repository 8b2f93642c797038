use Rattle.flat_runs.proofs.Reductions as R
use Rattle.flat_runs.proofs.followed_stretches.answers_go_on.Goals as goal

pub returns : goal.returns
returns c = λ m p which s g d to vs w fits ask et. R.answers_go_on m p which w s g d to vs fits ask et
