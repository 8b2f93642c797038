use Rattle.flow_rewrite.proofs.PutLemmas.{put_one, got_local, got_const}
use Rattle.flow_rewrite.proofs.put.put_operand.Goals as goal

pub returns-in_ok-push-in-Local : goal.returns-in_ok-push-in-Local
returns-in_ok-push-in-Local c = put_one _ _ _ _ c.in_ok-push-in-Local.ensures.items (got_local c.args.operand c.in-Local.x c.in-Local.is)

pub returns-in_ok-push-in-Const : goal.returns-in_ok-push-in-Const
returns-in_ok-push-in-Const c = put_one _ _ _ _ c.in_ok-push-in-Const.ensures.items (got_const c.args.operand c.in-Const.value c.in-Const.is)
