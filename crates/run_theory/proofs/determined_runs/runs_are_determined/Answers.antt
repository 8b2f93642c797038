use Rattle.wa_types.specs.Base.{Base}
use Rattle.wa_model.specs.Blocking.{Note, State, blocking}
use Rattle.wa_model.specs.Protocol.{Held, exports_of, protocol}
use Rattle.run_theory.specs.DeterminedRuns.{start_of, held_start_of}
use Rattle.run_theory.proofs.Runs.{leads_one}
use Rattle.run_theory.proofs.determined_runs.runs_are_determined.Goals as goal

pub returns-clause-blocking : goal.returns-clause-blocking
returns-clause-blocking c = λ m plan os n es fs t u a b. leads_one State Note (blocking (Base m) plan) (start_of m plan os).last t u n es fs a b

pub returns-clause-protocol : goal.returns-clause-protocol
returns-clause-protocol c = λ p plan os n es fs t u a b. leads_one Held Note (protocol p (exports_of p) plan) (held_start_of p plan os).last t u n es fs a b
