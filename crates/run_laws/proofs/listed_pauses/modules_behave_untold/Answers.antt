use Rattle.run_laws.proofs.UntoldRuns.{behaves_untold}
use Rattle.run_laws.proofs.listed_pauses.modules_behave_untold.Goals as goal

pub returns : goal.returns
returns c = behaves_untold
