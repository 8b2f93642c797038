use Rattle.wa_types.specs.View.{code}
use Rattle.guard_form.specs.Guarded.{raised}
use Rattle.flow_rewrite.specs.Emitting.{indices}
use Rattle.flow_rewrite.specs.UnitView.{callee_of}
use Rattle.flow_rewrite.proofs.PieceLemmas.{called_of}
use Rattle.flow_rewrite.proofs.calls.put_called.Goals as goal

pub returns : goal.returns
returns c =
    called_of (indices c.args.guards.now) c.args.label c.args.number (raised 0 c.args.by (code c.args.call.behind.now)) (callee_of c.args.call.target) c.args.call.slots.now c.args.call.to
    _ _ _ _ _ _ c.in_ok-put_slots.ensures c.in_ok-put_target.ensures c.in_ok-put_noted.ensures c.in_ok-put_to.ensures c.in_ok-put_raised.ensures
