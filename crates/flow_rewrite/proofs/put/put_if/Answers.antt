use Rattle.wa_types.proofs.ViewLemmas.{in_if}
use Rattle.flow_rewrite.proofs.PutLemmas.{put_one}
use Rattle.flow_rewrite.proofs.put.put_if.Goals as goal

pub returns : goal.returns
returns c = put_one _ _ _ _ c.in_ok-push.ensures.items (in_if _ _ _)
