use Rattle.std.proofs.Common.{subst}
use Rattle.std.proofs.lemmas.Result.{IfOk-weaker}
use Rattle.wa_types.specs.Syntax.{done}
use Rattle.wa_types.specs.View.{in_front}
use Rattle.slim_rewrite.specs.Walking.{OpTakes}
use Rattle.slim_rewrite.proofs.StepLemmas.{plain_stepped}
use Rattle.slim_rewrite.proofs.moves.put_plain.Goals as goal

pub returns : goal.returns
returns c =
    let op = in_front c.args.op.now done in
    IfOk-weaker c.keep_told.result _ _
    (λ put kept e. plain_stepped c.args.at.now c.take.new.at c.keep_told.new.at c.put_copy.new.out op c.args.args.now c.args.to c.requires.fits.0 c.requires.good
    (c.in_ok-take.ensures c.if-not-branch.false) c.requires.fits.1 (subst (OpTakes c.args.at.now op) c.if-count-args.false c.in-Some.ensures) c.in_ok-put_copy.ensures (kept e)) c.keep_told.ensures
