use Rattle.wa_types.specs.View.{code}
use Rattle.flow_rewrite.specs.Emitting.{indices}
use Rattle.flow_rewrite.proofs.GuardLemmas.{restoring_put}
use Rattle.flow_rewrite.proofs.guards.put_restoring.Goals as goal

pub returns : goal.returns
returns c = restoring_put (indices c.args.guards.now) (code c.args.restoring.items) _ (code c.args.piece.now) _ _ c.in_ok-inside.ensures c.in_ok-put_test.ensures
