use Rattle.std.proofs.Common.{refl}
use Rattle.flow_rewrite.specs.Begun.{lead_of}
use Rattle.flow_rewrite.specs.Emitting.{indices}
use Rattle.flow_rewrite.proofs.GuardLemmas.{fronted_none, fronted_some, length_none, length_some}
use Rattle.flow_rewrite.proofs.guards.put_in_front.Goals as goal

pub returns-then-is_empty : goal.returns-then-is_empty
returns-then-is_empty c = fronted_none (indices c.args.guards.now) (lead_of c.args.lead) _ _ c.args.piece.now (length_none _ _ c.is_empty.ensures c.if-is_empty.true) refl

pub returns : goal.returns
returns c =
    fronted_some (indices c.args.guards.now) (lead_of c.args.lead) _ _ _ c.args.piece.now (length_some _ _ c.is_empty.ensures c.if-is_empty.false) refl c.in_ok-put_begun.ensures
