use Rattle.std.proofs.Common.{◌∙◌}
use Rattle.slim_rewrite.proofs.InsideLemmas.{claimed_is}
use Rattle.slim_rewrite.proofs.constructs.claim.Goals as goal

pub returns : goal.returns
returns c = λ e. claimed_is c.args.at.now c.keep.new.at c.args.slot c.len-at.result (c.in_ok-keep.ensures c.if-not-branch.false) (c.len-at.ensures ∙ c.keep.new.at.stack.ok.0)
