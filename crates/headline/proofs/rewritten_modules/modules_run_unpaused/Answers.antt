use Rattle.headline.proofs.UnpausedRuns.{runs_unpaused}
use Rattle.headline.proofs.rewritten_modules.modules_run_unpaused.Goals as goal

pub returns : goal.returns
returns c = runs_unpaused
