use Rattle.run_laws.proofs.Sizes.{runtime_keeps_sizes}
use Rattle.run_laws.proofs.runtime_parts.runtime_keeps_sizes.Goals as goal

pub returns : goal.returns
returns c = runtime_keeps_sizes
