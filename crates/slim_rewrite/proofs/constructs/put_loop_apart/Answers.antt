use Rattle.std.proofs.Common.{OnOk, subst}
use Rattle.wa_types.specs.Syntax.{a_loop}
use Rattle.slim_rewrite.specs.declared.sequence.Written.{Written}
use Rattle.slim_rewrite.specs.Inside.{Nested}
use Rattle.slim_rewrite.proofs.constructs.put_loop_apart.Goals as goal

pub returns : goal.returns
returns c =
    subst (λ (w : Written). OnOk c.put_loop.result (Nested a_loop c.args.at.now c.args.all.now c.put_loop.new.at c.put_loop.new.all w)) c.into_inner.ensures c.put_loop.ensures
