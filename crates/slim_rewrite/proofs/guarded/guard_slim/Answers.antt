use Rattle.std.proofs.Common.{◌∙◌}
use Rattle.std.proofs.lemmas.Result.{IfOk-weaker}
use Rattle.wa_types.specs.View.{code}
use Rattle.run_theory.specs.FlatView.{flat_func_of}
use Rattle.slim_rewrite.proofs.GuardLemmas.{in_block_is, pieces_few, pieces_raised}
use Rattle.slim_rewrite.proofs.ToldLemmas.{guarded_told}
use Rattle.slim_rewrite.proofs.guarded.guard_slim.Goals as goal

pub guarded_pieces-requires-clause-labels : goal.guarded_pieces-requires-clause-labels
guarded_pieces-requires-clause-labels c =
    pieces_raised c.args.numbers.now c.args.slots.low c.args.slots.count (flat_func_of c.args.func.now) c.in_ok-pieces.pieces c.in_ok-whole.whole c.args.func.now.result c.requires.fits c.requires.few
    c.in_ok-pieces.ensures (in_block_is _ _ c.args.func.now.result c.in_ok-whole.ensures.first c.in_ok-whole.ensures.units)

pub guarded_pieces-requires-clause-few : goal.guarded_pieces-requires-clause-few
guarded_pieces-requires-clause-few c =
    pieces_few c.args.numbers.now c.args.slots.low c.args.slots.count (flat_func_of c.args.func.now) c.in_ok-pieces.pieces c.in_ok-whole.whole c.args.func.now.result c.requires.fits c.requires.few
    c.in_ok-pieces.ensures (in_block_is _ _ c.args.func.now.result c.in_ok-whole.ensures.first c.in_ok-whole.ensures.units)

pub returns : goal.returns
returns c = IfOk-weaker c.guarded_pieces.result _ _
    (λ v is. guarded_told c.args.numbers.now c.args.slots.low c.args.slots.count c.args.state c.len-index.result c.leaves_first.result (flat_func_of c.args.func.now) c.in_ok-pieces.pieces
    c.in_ok-whole.whole (code c.args.restoring.items) (code v.items) c.requires.fits c.in_ok-pieces.ensures
    (in_block_is _ _ c.args.func.now.result c.in_ok-whole.ensures.first c.in_ok-whole.ensures.units) (c.len-index.ensures ∙ c.args.func.now.locals.ok.0) c.leaves_first.ensures is)
    c.guarded_pieces.ensures
