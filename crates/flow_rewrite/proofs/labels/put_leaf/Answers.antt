use Rattle.flow_rewrite.proofs.RaiseLemmas.{pushed_as_raised}
use Rattle.flow_rewrite.proofs.labels.put_leaf.Goals as goal

pub returns : goal.returns
returns c = pushed_as_raised _ _ c.args.inside c.args.by c.args.instr.now c.in_ok-leaf.leaf c.in_ok-push.ensures.items c.in_ok-leaf.ensures
