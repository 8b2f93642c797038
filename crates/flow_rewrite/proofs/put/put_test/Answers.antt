use Rattle.wa_types.proofs.ViewLemmas.{in_if}
use Rattle.flow_rewrite.proofs.PutLemmas.{put_one, put_on, global_is}
use Rattle.flow_rewrite.proofs.put.put_test.Goals as goal

pub returns : goal.returns
returns c = put_on _ _ _ _ _ (put_one _ _ _ _ c.in_ok-push.ensures.items (global_is c.args.state)) (put_one _ _ _ _ c.in_ok-push-2.ensures.items (in_if c.args.ty c.args.then_arm c.args.else_arm))
