use Rattle.slim_rewrite.proofs.NestLemmas.{free_told, none_in, not_free}
use Rattle.slim_rewrite.proofs.constructs.are_free.Goals as goal

pub returns-then-not-is_empty : goal.returns-then-not-is_empty
returns-then-not-is_empty c = not_free c.args.then_arm.now c.args.else_arm.now _ c.is_empty.result c.args.then_arm.now.pieces.units.ok.0 c.is_empty.ensures c.if-not-is_empty.true

pub returns : goal.returns
returns c =
    free_told c.args.then_arm.now c.args.else_arm.now _ c.is_empty-2.result c.args.else_arm.now.pieces.units.ok.0 c.is_empty-2.ensures
    (none_in c.args.then_arm.now.pieces.units.items _ c.is_empty.result c.args.then_arm.now.pieces.units.ok.0 c.is_empty.ensures c.if-not-is_empty.false)
