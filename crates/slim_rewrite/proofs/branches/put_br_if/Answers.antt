use Rattle.std.proofs.Common.{refl, ◌∷◌, []}
use Rattle.flow_rewrite.proofs.PutLemmas.{put_one, br_if_is}
use Rattle.slim_rewrite.proofs.BranchLemmas.{br_if_stepped}
use Rattle.slim_rewrite.proofs.branches.put_br_if.Goals as goal

pub returns : goal.returns
returns c = λ e.
    br_if_stepped c.args.at.now c.take.new.at c.take.new.at (c.args.cond ∷ []) c.requires (c.in_ok-take.ensures c.if-not-branch.false) c.push.new.self c.args.cond c.args.label refl
    (put_one _ _ _ _ c.in_ok-push.ensures.items (br_if_is c.args.label))
