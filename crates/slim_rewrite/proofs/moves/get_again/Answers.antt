use Rattle.std.proofs.Common.{sym, ◌∙◌}
use Rattle.std.proofs.lemmas.Result.{IfOk-weaker}
use Rattle.flow_rewrite.proofs.PutLemmas.{put_one, get_is}
use Rattle.slim_rewrite.proofs.MoveLemmas.{again_stepped}
use Rattle.slim_rewrite.proofs.moves.get_again.Goals as goal

pub returns : goal.returns
returns c = IfOk-weaker c.put_set.result _ _
    (λ put given e. again_stepped c.args.at.now c.flush.new.at c.put_set.new.at c.push.new.self c.args.to c.args.from c.requires.good (sym c.stands.ensures ∙ c.if-not-stands.false)
    c.in_ok-flush.ensures (put_one _ _ _ _ c.in_ok-push.ensures.items (get_is c.args.from)) (given e)) c.put_set.ensures
