use Rattle.std.proofs.lemmas.Result.{IfOk-weaker}
use Rattle.validate_bodies.proofs.Trees.{says_applied}
use Rattle.validate_bodies.proofs.bodies.apply_leaf.Goals as goal

pub returns-clause-applied : goal.returns-clause-applied
returns-clause-applied c = IfOk-weaker c.apply.result _ _ (λ r applied. says_applied _ _ _ _ _ _ _ r c.asks_at.result c.asks_at.ensures applied) c.apply.ensures.applied
