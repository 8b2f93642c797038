use Rattle.std.proofs.Common.{refl, None, ◌+◌, arith}
use Rattle.wa_types.specs.View.{code}
use Rattle.wa_types.proofs.ViewLemmas.{in_block}
use Rattle.flow_rewrite.proofs.PutLemmas.{put_one}
use Rattle.flow_rewrite.specs.Begun.{lead_of}
use Rattle.flow_rewrite.specs.Emitting.{indices}
use Rattle.flow_rewrite.specs.UnitView.{callee_of}
use Rattle.flow_rewrite.proofs.ExitLemmas.{called_alone, called_apart, called_labelled}
use Rattle.flow_rewrite.proofs.calls.put_call.Goals as goal

pub returns-in_ok-push-in-End : goal.returns-in_ok-push-in-End
returns-in_ok-push-in-End c =
    called_apart (indices c.args.guards.now) (lead_of c.args.lead) c.args.spot.exit c.args.spot.depth c.args.spot.number (code c.args.piece.now) c.args.call.slots.now (callee_of c.args.call.target)
    c.args.call.to (code c.args.call.behind.now)
    _ _ _ (c.args.spot.depth + 1) _ _ c.in-End.is c.new-body.ensures.items c.in_ok-put_search-in-End.ensures refl c.in_ok-put_called-in-End.ensures
    (put_one _ _ _ _ c.in_ok-push-in-End.ensures.items (in_block None _))

pub returns-in_ok-put_called-in-Label : goal.returns-in_ok-put_called-in-Label
returns-in_ok-put_called-in-Label c =
    called_labelled (indices c.args.guards.now) (lead_of c.args.lead) c.args.spot.exit c.args.spot.depth c.args.spot.number (code c.args.piece.now) c.args.call.slots.now (callee_of c.args.call.target)
    c.args.call.to (code c.args.call.behind.now)
    c.in-Label.label _ _ _ _ c.in-Label.is (omega arith) c.in_ok-put_search-in-Label.ensures c.in_ok-put_called-in-Label.ensures

pub returns-in_ok-put_called-in_default : goal.returns-in_ok-put_called-in_default
returns-in_ok-put_called-in_default c =
    called_alone (indices c.args.guards.now) (lead_of c.args.lead) c.args.spot.exit c.args.spot.depth c.args.spot.number (code c.args.piece.now) c.args.call.slots.now (callee_of c.args.call.target)
    c.args.call.to (code c.args.call.behind.now)
    _ _ _ c.in_default.not-End c.in_default.not-Label c.in_ok-put_begun-in_default.ensures c.in_ok-put_called-in_default.ensures
