use Rattle.frame_laws.proofs.OneFunction.{rewinds_one_law}
use Rattle.frame_laws.proofs.frame_stacks.functions_rewind.Goals as goal

pub returns : goal.returns
returns c = rewinds_one_law
