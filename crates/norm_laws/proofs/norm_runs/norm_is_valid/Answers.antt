use Rattle.norm_laws.proofs.Norms.{norm_valid}
use Rattle.norm_laws.proofs.norm_runs.norm_is_valid.Goals as goal

pub returns : goal.returns
returns c = norm_valid
