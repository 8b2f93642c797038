use Rattle.wa_types.proofs.ViewLemmas.{in_block}
use Rattle.flow_rewrite.proofs.PutLemmas.{put_one}
use Rattle.flow_rewrite.proofs.put.put_block.Goals as goal

pub returns : goal.returns
returns c = put_one _ _ _ _ c.in_ok-push.ensures.items (in_block _ _)
