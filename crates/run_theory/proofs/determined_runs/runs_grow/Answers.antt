use Rattle.std.proofs.Common.{arith, ◌≤◌}
use Rattle.wa_types.specs.Base.{Base}
use Rattle.wa_model.specs.Blocking.{Note, State, blocking}
use Rattle.wa_model.specs.Protocol.{Held, exports_of, protocol}
use Rattle.run_theory.specs.DeterminedRuns.{start_of, held_start_of}
use Rattle.run_theory.proofs.Runs.{prefix_of_longer, prefix_on}
use Rattle.run_theory.proofs.determined_runs.runs_grow.Goals as goal

pub returns-clause-blocking : goal.returns-clause-blocking
returns-clause-blocking c = λ m plan os n more. let le : n ≤ n = omega arith in
    prefix_on State Note (blocking (Base m) plan) (start_of m plan os).events _ _ (prefix_of_longer State Note (blocking (Base m) plan) n n more (start_of m plan os).last le)

pub returns-clause-protocol : goal.returns-clause-protocol
returns-clause-protocol c = λ p plan os n more. let le : n ≤ n = omega arith in
    prefix_on Held Note (protocol p (exports_of p) plan) (held_start_of p plan os).events _ _ (prefix_of_longer Held Note (protocol p (exports_of p) plan) n n more (held_start_of p plan os).last le)
