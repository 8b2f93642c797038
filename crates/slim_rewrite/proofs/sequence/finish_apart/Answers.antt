use Rattle.std.proofs.Common.{subst, sym}
use Rattle.slim_rewrite.specs.declared.sequence.Sequence.{Sequence}
use Rattle.slim_rewrite.specs.declared.sequence.Written.{Written}
use Rattle.slim_rewrite.specs.Inside.{Finished}
use Rattle.slim_rewrite.proofs.sequence.finish_apart.Goals as goal

pub returns : goal.returns
returns c =
    let a = c.args.at.now in
    let b = c.finish.new.at in
    subst (λ (w : Written). Finished a c.args.all.value b w) (sym c.in_ok-new.ensures.ok)
    (subst (λ (p : Sequence). Finished a p b c.in_ok-written.written) c.into_inner.ensures c.in_ok-written.ensures)
