use Rattle.headline.proofs.SlimLinks.{slim_law}
use Rattle.headline.proofs.slim_beside.slim_module_is_beside.Goals as goal

pub returns : goal.returns
returns c = slim_law
