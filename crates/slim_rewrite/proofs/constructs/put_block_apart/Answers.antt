use Rattle.std.proofs.Common.{OnOk, subst}
use Rattle.wa_types.specs.Syntax.{a_block}
use Rattle.slim_rewrite.specs.declared.sequence.Written.{Written}
use Rattle.slim_rewrite.specs.Inside.{Nested}
use Rattle.slim_rewrite.proofs.constructs.put_block_apart.Goals as goal

pub returns : goal.returns
returns c =
    subst (λ (w : Written). OnOk c.put_block.result (Nested a_block c.args.at.now c.args.all.now c.put_block.new.at c.put_block.new.all w)) c.into_inner.ensures c.put_block.ensures
