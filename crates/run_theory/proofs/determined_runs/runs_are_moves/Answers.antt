use Rattle.std.proofs.Common.{refl, arith, ◌≤◌}
use Rattle.wa_model.specs.Machine.{run}
use Rattle.wa_types.specs.Base.{Base}
use Rattle.wa_model.specs.Blocking.{Note, State, blocking}
use Rattle.wa_model.specs.Protocol.{Held, exports_of, protocol}
use Rattle.run_theory.specs.DeterminedRuns.{start_of, held_start_of}
use Rattle.run_theory.proofs.Runs.{run_is_run}
use Rattle.run_theory.proofs.determined_runs.runs_are_moves.Goals as goal

pub returns-clause-blocking : goal.returns-clause-blocking
returns-clause-blocking c = λ m plan os n. let le : n ≤ n = omega arith in
    (run (blocking (Base m) plan) n (start_of m plan os).last, refl, run_is_run State Note (blocking (Base m) plan) n n (start_of m plan os).last le)

pub returns-clause-protocol : goal.returns-clause-protocol
returns-clause-protocol c = λ p plan os n. let le : n ≤ n = omega arith in
    (run (protocol p (exports_of p) plan) n (held_start_of p plan os).last, refl, run_is_run Held Note (protocol p (exports_of p) plan) n n (held_start_of p plan os).last le)
