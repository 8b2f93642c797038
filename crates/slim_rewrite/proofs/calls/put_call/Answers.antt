use Rattle.std.proofs.Common.{sym, ◌∙◌, ◌+◌, arith}
use Rattle.std.proofs.lemmas.Result.{IfOk-weaker}
use Rattle.wa_types.specs.Syntax.{done}
use Rattle.wa_types.specs.View.{in_front}
use Rattle.slim_rewrite.proofs.CallLemmas.{call_leaf, free_call_put}
use Rattle.slim_rewrite.proofs.calls.put_call.Goals as goal

pub put_free_call-requires-clause-leaf : goal.put_free_call-requires-clause-leaf
put_free_call-requires-clause-leaf c = call_leaf c.args.call.op.now c.requires.ready.fit.0

pub returns : goal.returns
returns c = IfOk-weaker c.put_free_call.result _ _
    (λ put st e. free_call_put c.args.numbers.now c.args.at.now c.put_free_call.new.at c.args.all.now (c.args.all.now.place + 1) (in_front c.args.call.op.now done) c.args.call.stack.now c.args.call.args
    c.args.call.to c.requires.goes (omega arith) (sym c.is_numbered.ensures ∙ c.if-is_numbered.false) c.requires.ready.fit.0 (st e)) c.put_free_call.ensures
