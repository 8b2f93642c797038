use Rattle.func_rewrite.proofs.BodyCode.{value_none, value_put}
use Rattle.func_rewrite.proofs.body.put_value.Goals as goal

pub returns-in_ok-push : goal.returns-in_ok-push
returns-in_ok-push c = value_put c.args.out.now.items c.push.new.self.items c.args.ty c.in-Some.ty c.zero_of.result c.in-Some.is c.zero_of.ensures c.in_ok-push.ensures.items

pub returns-in_default : goal.returns-in_default
returns-in_default c = value_none c.args.out.now.items c.args.ty c.in_default.is
