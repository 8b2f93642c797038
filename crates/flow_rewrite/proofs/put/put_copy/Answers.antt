use Rattle.flow_rewrite.proofs.PutLemmas.{put_one, front_then}
use Rattle.flow_rewrite.proofs.put.put_copy.Goals as goal

pub returns : goal.returns
returns c = put_one _ _ _ _ c.in_ok-push.ensures.items (λ rest. front_then c.args.op.now c.in_ok-copy.copy rest c.in_ok-copy.ensures)
