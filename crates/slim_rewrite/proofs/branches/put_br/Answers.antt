use Rattle.flow_rewrite.proofs.PutLemmas.{put_one, br_is}
use Rattle.slim_rewrite.proofs.BranchLemmas.{br_ended}
use Rattle.slim_rewrite.proofs.branches.put_br.Goals as goal

pub returns : goal.returns
returns c = br_ended c.args.at.now c.flush.new.at c.push.new.self c.args.label c.requires c.in_ok-flush.ensures (put_one _ _ _ _ c.in_ok-push.ensures.items (br_is c.args.label))
