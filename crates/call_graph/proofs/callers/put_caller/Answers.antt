use Rattle.std.proofs.Common.{arith, ◌<◌, List, map, take, length, get_or, set, sym, ap, subst}
use Rattle.std.proofs.lemmas.Option.{slice_get-get_or}
use Rattle.wa_types.specs.Pausing.{Callee as PlainCallee}
use Rattle.call_graph.specs.declared.calls.Callee.{Callee}
use Rattle.call_graph.specs.declared.calls.Callee.TheVariants.{Direct, Indirect}
use Rattle.call_graph.specs.Calls.{callee_of, IsThere}
use Rattle.call_graph.specs.Callers.{Puts}
use Rattle.call_graph.specs.Graph.{items_or_none}
use Rattle.call_graph.proofs.CallerLemmas.{taken_at}
use Rattle.call_graph.proofs.GraphLemmas.{puts_indirect, puts_direct}
use Rattle.call_graph.proofs.callers.put_caller.Goals as goal

pub loop-call-preserved-in_default : goal.loop-call-preserved-in_default
loop-call-preserved-in_default c =
    subst (λ (l : List PlainCallee). Puts l c.args.caller c.args.callers.now c.loop-call.callers)
    (sym (taken_at c.args.calls.now c.loop-call.call-index (Direct 0) (Indirect c.in_default.field-0) c.loop-call-test.true c.in_default.is))
    (puts_indirect (map callee_of (take c.loop-call.call-index c.args.calls.now)) c.args.caller c.args.callers.now c.loop-call.callers c.loop-call.invariant c.in_default.field-0)

pub loop-call-preserved : goal.loop-call-preserved
loop-call-preserved c =
    let there : c.in-Direct.func < length c.args.callers.now = subst (λ (x : Callee). IsThere (length c.args.callers.now) (callee_of x)) c.in-Direct.is
    (c.requires c.loop-call.call-index (Direct 0) c.loop-call-test.true) in
    let lt : c.in-Direct.func < length c.loop-call.callers = omega (arith, there, c.loop-call.auto.callers) in
    subst (λ (l : List PlainCallee). Puts l c.args.caller c.args.callers.now (set c.loop-call.callers c.in-Direct.func c.push.new.self))
    (sym (taken_at c.args.calls.now c.loop-call.call-index (Direct 0) (Direct c.in-Direct.func) c.loop-call-test.true c.in-Direct.is))
    (puts_direct (map callee_of (take c.loop-call.call-index c.args.calls.now)) c.args.caller c.args.callers.now c.loop-call.callers c.loop-call.invariant c.in-Direct.func
    (get_or c.loop-call.callers c.in-Direct.func c.index-callers-func.result).items c.push.new.self lt
    (ap items_or_none (slice_get-get_or c.loop-call.callers c.in-Direct.func c.index-callers-func.result lt)) c.in_ok-push.ensures.items)
