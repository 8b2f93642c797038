use Rattle.std.proofs.Common.{◌++◌, map, sym, ap, ◌∙◌}
use Rattle.std.proofs.lemmas.Result.{on_ok_weaker}
use Rattle.wa_types.specs.declared.instrs.Instr.{Instr}
use Rattle.wa_types.specs.Syntax.{done}
use Rattle.wa_types.specs.View.{code, in_front}
use Rattle.wa_types.specs.Pruned.{pruned}
use Rattle.wa_types.specs.Pausing.{calls_of}
use Rattle.call_graph.specs.Calls.{callee_of}
use Rattle.call_graph.proofs.CallLemmas.{calls_step, calls_last, calls_end, calls_other, calls_direct, calls_indirect}
use Rattle.call_graph.proofs.calls.+put_calls.Goals as goal

pub put_calls-returns-then-is_last : goal.put_calls-returns-then-is_last
put_calls-returns-then-is_last t c =
    calls_last (map callee_of c.loop-instr.out.items) (map callee_of c.put_instr_calls.new.out.items)
    (map callee_of c.args.out.now.items ++ calls_of (pruned (code c.args.body.now))) c.args.body.now c.loop-instr.instr-index c.instr-item.result c.loop-instr-test.true c.instr-item.is
    (sym c.is_last.ensures ∙ c.if-is_last.true) c.in_ok-put_instr_calls.ensures c.loop-instr.invariant

pub put_calls-loop-instr-preserved : goal.put_calls-loop-instr-preserved
put_calls-loop-instr-preserved t c =
    calls_step (map callee_of c.loop-instr.out.items) (map callee_of c.put_instr_calls.new.out.items)
    (map callee_of c.args.out.now.items ++ calls_of (pruned (code c.args.body.now))) c.args.body.now c.loop-instr.instr-index c.instr-item.result c.loop-instr-test.true c.instr-item.is
    (sym c.is_last.ensures ∙ c.if-is_last.false) c.in_ok-put_instr_calls.ensures c.loop-instr.invariant

pub put_calls-returns : goal.put_calls-returns
put_calls-returns t c =
    calls_end (map callee_of c.loop-instr.out.items) (map callee_of c.args.out.now.items ++ calls_of (pruned (code c.args.body.now))) c.args.body.now c.loop-instr.instr-index
    c.loop-instr-test.false c.loop-instr.invariant

pub put_instr_calls-returns-in-Call : goal.put_instr_calls-returns-in-Call
put_instr_calls-returns-in-Call t c =
    on_ok_weaker c.put_call.result (λ h. h ∙ ap (λ z. map callee_of c.args.out.now.items ++ z) (sym (calls_direct c.in-Call.func))
    ∙ ap (λ (i : Instr). map callee_of c.args.out.now.items ++ calls_of (pruned (in_front i done))) (sym c.in-Call.is)) c.put_call.ensures

pub put_instr_calls-returns-in-CallIndirect : goal.put_instr_calls-returns-in-CallIndirect
put_instr_calls-returns-in-CallIndirect t c =
    on_ok_weaker c.put_call-in-CallIndirect.result (λ h. h ∙ ap (λ z. map callee_of c.args.out.now.items ++ z) (sym (calls_indirect c.in-CallIndirect.sort))
    ∙ ap (λ (i : Instr). map callee_of c.args.out.now.items ++ calls_of (pruned (in_front i done))) (sym c.in-CallIndirect.is)) c.put_call-in-CallIndirect.ensures

pub put_instr_calls-returns-in_default : goal.put_instr_calls-returns-in_default
put_instr_calls-returns-in_default t c =
    calls_other (map callee_of c.args.out.now.items) c.args.instr.now c.in_default.not-Call c.in_default.not-CallIndirect c.in_default.not-Block c.in_default.not-Loop c.in_default.not-If
