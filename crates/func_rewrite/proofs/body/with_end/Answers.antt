use Rattle.func_rewrite.proofs.BodyCode.{body_is}
use Rattle.func_rewrite.proofs.body.with_end.Goals as goal

pub returns : goal.returns
returns c = body_is c.new-body.result.items c.push.new.self.items c.append.new.self.items c.put_value.new.out.items c.args.saved.items c.args.guarded c.args.given
    c.new-body.ensures.items c.in_ok-push.ensures.items c.in_ok-append.ensures.items c.in_ok-put_value.ensures
