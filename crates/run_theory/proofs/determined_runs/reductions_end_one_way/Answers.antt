use Rattle.run_theory.proofs.Ends.{ends_once}
use Rattle.run_theory.proofs.determined_runs.reductions_end_one_way.Goals as goal

pub returns : goal.returns
returns c = λ m from left used used' end end' a b. ends_once m from left used used' end end' a b
