use Rattle.std.proofs.Common.{refl, sym, ◌∙◌, ◌+◌, ◌-◌, length, arith}
use Rattle.std.proofs.lemmas.List.{take_rest}
use Rattle.std.proofs.lemmas.Result.{IfOk-weaker}
use Rattle.slim_rewrite.proofs.CallLemmas.{numbered_put}
use Rattle.slim_rewrite.proofs.calls.put_numbered_call.Goals as goal

pub returns : goal.returns
returns c = IfOk-weaker c.keep_told.result _ _
    (λ put kept e ps is.
    let opened = c.in_ok-open_unit.ensures in
    numbered_put ps c.args.at.now c.flush.new.at c.open_unit.new.at c.keep_told.new.at c.args.all.now c.open_unit.new.all (c.open_unit.new.all.place + 1)
    (length c.args.stack.now - c.args.args) c.truncate.new.self c.in_ok-slots.slots c.args.target c.args.stack.now c.args.args c.args.to c.requires.goes is c.requires.good
    (sym c.deref.ensures.value ∙ c.same_slots.ensures c.if-not-same_slots.false) refl (omega (arith, c.if-kept-at.false)) c.in_ok-flush.ensures opened
    (c.in_ok-slots.ensures.items ∙ take_rest c.args.stack.now (length c.args.stack.now - c.args.args)) c.truncate.ensures.items (omega (arith, opened.place)) (kept e))
    c.keep_told.ensures
