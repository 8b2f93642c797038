use Rattle.wa_model.specs.Blocking.{Note, State, blocking}
use Rattle.run_theory.proofs.Runs.{leads_run}
use Rattle.run_theory.proofs.determined_runs.moves_add_up.Goals as goal

pub returns : goal.returns
returns c = λ m plan k n es s t l. leads_run State Note (blocking m plan) s t k n es l
