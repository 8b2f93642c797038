use Rattle.std.proofs.Common.{◌≤◌, sym, subst, ◌∙◌}
use Rattle.wa_types.specs.View.{code}
use Rattle.run_theory.specs.FlatView.{flat_func_of}
use Rattle.guard_form.specs.Bounds.{reads, reads_bound}
use Rattle.guard_form.proofs.EntrySizes.{guarded_reads}
use Rattle.slim_rewrite.specs.Functions.{are_plain}
use Rattle.slim_rewrite.proofs.GuardLemmas.{in_block_is, pieces_few, pieces_raised, plain_code}
use Rattle.slim_rewrite.proofs.plain.guard.Goals as goal

pub guarded_pieces-requires-clause-labels : goal.guarded_pieces-requires-clause-labels
guarded_pieces-requires-clause-labels c =
    pieces_raised c.args.numbers.now 0 0 (flat_func_of c.args.func.now) c.in_ok-pieces.pieces c.in_ok-whole.whole c.args.func.now.result c.requires.fits c.requires.few (are_plain c.in_ok-pieces.ensures)
    (in_block_is _ _ c.args.func.now.result c.in_ok-whole.ensures.first c.in_ok-whole.ensures.units)

pub guarded_pieces-requires-clause-few : goal.guarded_pieces-requires-clause-few
guarded_pieces-requires-clause-few c =
    pieces_few c.args.numbers.now 0 0 (flat_func_of c.args.func.now) c.in_ok-pieces.pieces c.in_ok-whole.whole c.args.func.now.result c.requires.fits c.requires.few (are_plain c.in_ok-pieces.ensures)
    (in_block_is _ _ c.args.func.now.result c.in_ok-whole.ensures.first c.in_ok-whole.ensures.units)

pub returns-clause-body : goal.returns-clause-body
returns-clause-body c =
    plain_code c.args.numbers.now c.args.state c.len.result c.new.result.items (flat_func_of c.args.func.now) c.in_ok-pieces.pieces c.in_ok-whole.whole (code c.in_ok-body.body.items)
    c.in_ok-pieces.ensures (in_block_is _ _ c.args.func.now.result c.in_ok-whole.ensures.first c.in_ok-whole.ensures.units)
    (c.len.ensures ∙ c.args.func.now.locals.ok.0) c.new.ensures.items c.in_ok-body.ensures

pub returns-clause-reads : goal.returns-clause-reads
returns-clause-reads c none =
    let f = flat_func_of c.args.func.now in
    subst (λ x. reads c.args.state x ≤ reads_bound c.args.numbers.now f.body) (sym (returns-clause-body c)) (guarded_reads c.args.state c.args.numbers.now f none)
