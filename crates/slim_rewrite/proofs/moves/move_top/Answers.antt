use Rattle.std.proofs.lemmas.Result.{IfOk-weaker}
use Rattle.slim_rewrite.proofs.MoveLemmas.{top_stepped}
use Rattle.slim_rewrite.proofs.moves.move_top.Goals as goal

pub returns : goal.returns
returns c = IfOk-weaker c.put_set.result _ _
    (λ put given e. top_stepped c.args.at.now c.take.new.at c.put_set.new.at c.args.from c.args.to c.requires (c.in_ok-take.ensures c.if-not-branch.false) (given e)) c.put_set.ensures
