use Rattle.std.proofs.lemmas.Result.{IfOk-weaker}
use Rattle.slim_rewrite.proofs.EndLemmas.{finished_ended, finished_flushed}
use Rattle.slim_rewrite.proofs.sequence.finish.Goals as goal

pub returns-then-all : goal.returns-then-all
returns-then-all c = IfOk-weaker c.completed.result _ _ (λ w done. finished_ended c.args.at.now c.completed.new.at c.args.all w c.if-all.true done) c.completed.ensures

pub returns : goal.returns
returns c = IfOk-weaker c.completed-2.result _ _
    (λ w done. finished_flushed c.args.at.now c.flush.new.at c.completed-2.new.at c.args.all w c.requires c.if-all.false c.in_ok-flush.ensures done) c.completed-2.ensures
