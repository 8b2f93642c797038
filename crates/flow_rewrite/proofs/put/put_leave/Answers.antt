use Rattle.flow_rewrite.proofs.PutLemmas.{put_one, put_on, global_is, br_if_is}
use Rattle.flow_rewrite.proofs.put.put_leave.Goals as goal

pub returns : goal.returns
returns c = put_on _ _ _ _ _ (put_one _ _ _ _ c.in_ok-push.ensures.items (global_is c.args.state)) (put_one _ _ _ _ c.in_ok-push-2.ensures.items (br_if_is c.args.label))
