use Rattle.flow_rewrite.proofs.UnitLemmas.{own_block_is}
use Rattle.flow_rewrite.proofs.pieces.in_own_block.Goals as goal

pub returns-clause-units : goal.returns-clause-units
returns-clause-units c =
    own_block_is c.args.pieces.first c.args.pieces.units c.in_ok-behind.behind c.new-outer.result.items c.push.new.self.items c.args.from c.new-outer.ensures.items c.in_ok-push.ensures.items
    c.in_ok-behind.ensures
