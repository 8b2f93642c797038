use Rattle.std.proofs.Common.{◌≡◌, refl, ap, ◌∙◌}
use Rattle.wa_model.specs.Machine.{Ran}
use Rattle.wa_types.specs.Base.{Base}
use Rattle.wa_model.specs.Blocking.{Note, State, between, begins, runs, halts, Blocking, store_of}
use Rattle.run_theory.proofs.PrunedRuns.{pruned_state, blocking_run_pruned}
use Rattle.run_theory.proofs.determined_runs.pruned_runs_are_the_same.Goals as goal

store_same : (s : State) → store_of (pruned_state s) ≡ store_of s
store_same (between s l) = refl
store_same (begins x s l) = refl
store_same (runs task c l) = refl
store_same (halts s) = refl

pub returns : goal.returns
unfolding Base
returns c = λ m plan os n. (
  ap (λ (r : Ran State Note). r.events) (blocking_run_pruned (Base m) plan os n),
  ap (λ (r : Ran State Note). store_of r.last) (blocking_run_pruned (Base m) plan os n) ∙ store_same (Blocking m plan os n).last,
)
