use Rattle.norm_laws.proofs.Norms.{norm_rewritten}
use Rattle.norm_laws.proofs.norm_runs.norm_is_rewritten.Goals as goal

pub returns : goal.returns
returns c = norm_rewritten
