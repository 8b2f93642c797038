use Rattle.flow_rewrite.proofs.PutLemmas.{put_one, set_told}
use Rattle.flow_rewrite.proofs.put.put_to.Goals as goal

pub returns-in_ok-push : goal.returns-in_ok-push
returns-in_ok-push c = put_one _ _ _ _ c.in_ok-push.ensures.items (set_told c.args.to c.in-Some.x c.in-Some.is)
