use Rattle.flow_rewrite.proofs.PutLemmas.{put_one, put_on, get_is, const_is, num_is}
use Rattle.flow_rewrite.proofs.put.put_index.Goals as goal

pub returns : goal.returns
returns c = put_on _ _ _ _ _ (put_on _ _ _ _ _ (put_one _ _ _ _ c.in_ok-push.ensures.items (get_is c.args.index)) (put_one _ _ _ _ c.in_ok-push-2.ensures.items (const_is _)))
    (put_one _ _ _ _ c.in_ok-push-3.ensures.items (num_is c.args.op))
