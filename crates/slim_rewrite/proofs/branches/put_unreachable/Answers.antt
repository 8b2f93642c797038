use Rattle.flow_rewrite.proofs.PutLemmas.{put_one, unreachable_is}
use Rattle.slim_rewrite.proofs.BranchLemmas.{halt_ended}
use Rattle.slim_rewrite.proofs.branches.put_unreachable.Goals as goal

pub returns : goal.returns
returns c = halt_ended c.args.at.now c.push.new.self c.requires (put_one _ _ _ _ c.in_ok-push.ensures.items unreachable_is)
