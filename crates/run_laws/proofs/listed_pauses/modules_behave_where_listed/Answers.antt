use Rattle.run_laws.proofs.UntoldRuns.{behaves_where_listed}
use Rattle.run_laws.proofs.listed_pauses.modules_behave_where_listed.Goals as goal

pub returns : goal.returns
returns c = behaves_where_listed
