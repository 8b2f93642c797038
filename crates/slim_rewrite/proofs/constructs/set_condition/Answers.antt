use Rattle.flow_rewrite.proofs.PutLemmas.{put_one, set_is}
use Rattle.slim_rewrite.proofs.NestLemmas.{set_const, set_one}
use Rattle.slim_rewrite.proofs.constructs.set_condition.Goals as goal

pub returns-in_ok-push-in-Local : goal.returns-in_ok-push-in-Local
returns-in_ok-push-in-Local c =
    set_one c.args.at.now c.push.new.self c.args.cond c.in-Local.x c.args.direct c.in-Local.is c.if-not-direct.false (put_one _ _ _ _ c.in_ok-push-in-Local.ensures.items (set_is c.in-Local.x))

pub returns-in-Const : goal.returns-in-Const
returns-in-Const c = set_const c.args.at.now c.args.cond c.in-Const.field-0 c.args.direct c.in-Const.is
