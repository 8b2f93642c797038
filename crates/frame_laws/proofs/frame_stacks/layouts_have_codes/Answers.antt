use Rattle.frame_laws.proofs.OneFunction.{layout_codes}
use Rattle.frame_laws.proofs.frame_stacks.layouts_have_codes.Goals as goal

pub returns : goal.returns
returns c = layout_codes
