use Rattle.std.proofs.Common.{ap}
use Rattle.wa_types.specs.View.{code}
use Rattle.flow_rewrite.specs.Begun.{lead_of}
use Rattle.flow_rewrite.specs.Emitting.{indices}
use Rattle.flow_rewrite.proofs.GuardLemmas.{begun_led, begun_unled}
use Rattle.flow_rewrite.proofs.guards.put_begun.Goals as goal

pub returns-in_ok-put_guarded-in-None : goal.returns-in_ok-put_guarded-in-None
returns-in_ok-put_guarded-in-None c =
    begun_unled (indices c.args.guards.now) (lead_of c.args.lead) (code c.args.piece.now) _ _ (ap lead_of c.in-None.is) c.in_ok-put_guarded-in-None.ensures

pub returns-in_ok-put_restoring-in-Some : goal.returns-in_ok-put_restoring-in-Some
returns-in_ok-put_restoring-in-Some c =
    begun_led (indices c.args.guards.now) (lead_of c.args.lead) (code c.in-Some.restoring.items) (code c.args.piece.now) _ _ (ap lead_of c.in-Some.is) c.in_ok-put_restoring-in-Some.ensures
