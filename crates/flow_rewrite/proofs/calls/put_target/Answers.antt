use Rattle.flow_rewrite.proofs.PutLemmas.{put_one}
use Rattle.flow_rewrite.proofs.PieceLemmas.{target_direct, target_indirect}
use Rattle.flow_rewrite.proofs.calls.put_target.Goals as goal

pub returns-in_ok-push-in-Direct : goal.returns-in_ok-push-in-Direct
returns-in_ok-push-in-Direct c = put_one _ _ _ _ c.in_ok-push-in-Direct.ensures.items (target_direct c.args.target c.in-Direct.func c.in-Direct.is)

pub returns-in_ok-push-in-Indirect : goal.returns-in_ok-push-in-Indirect
returns-in_ok-push-in-Indirect c = put_one _ _ _ _ c.in_ok-push-in-Indirect.ensures.items (target_indirect c.args.target c.in-Indirect.sort c.in-Indirect.is)
