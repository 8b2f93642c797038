-- A module of which nothing may pause is rewritten by the runtime's parts alone.
use Rattle.std.proofs.Common.{List, Bool}
use Rattle.wa_types.specs.Syntax.{Module}
use Rattle.wa_types.specs.Validity.{Valid}
use Rattle.wa_types.specs.Pausing.{Settings}
use Rattle.wa_types.specs.Runtime.{with_runtime}
use Rattle.run_theory.specs.Quiet.{NeverPauses, QuietAreRewritten}
use Rattle.run_theory.proofs.QuietBehave.{behaves_on}
use Rattle.run_theory.proofs.QuietRewritten.{none_tells, quiet_parts}
use Rattle.headline.specs.Given.{BehavesGiven}
use Rattle.headline.proofs.GivenPlans.{behaves_given}
use Rattle.headline.proofs.UnpausedRuns.{runs_unpaused}

quiet_given : (m : Module) (s : Settings) → Valid m → NeverPauses m s → BehavesGiven m s (with_runtime m)
quiet_given m s valid never wf which tells plan os n c pauses =
    let g = c.given in
    behaves_on m s valid never which tells plan os n g.globals g.entries c.outcomes pauses

pub quiet_rewritten : QuietAreRewritten
quiet_rewritten m s valid free never = record {
  parts = quiet_parts m s valid free never;
  behaves = behaves_given m s (with_runtime m) (quiet_given m s valid never);
  unpaused = runs_unpaused m s (with_runtime m) (none_tells m s never).0 (quiet_given m s valid never) (none_tells m s never).1;
}
