use Rattle.std.proofs.Common.{OnOk, subst}
use Rattle.slim_rewrite.specs.declared.sequence.Written.{Written}
use Rattle.slim_rewrite.specs.Inside.{Decided}
use Rattle.slim_rewrite.proofs.constructs.put_if_apart.Goals as goal

pub returns : goal.returns
returns c =
    let a = c.args.at.now in
    let p = c.args.all.now in
    let b = c.put_if.new.at in
    let q = c.put_if.new.all in
    subst (λ (w : Written). OnOk c.put_if.result (Decided c.args.cond c.args.direct a p b q c.args.then_arm.value w)) c.into_inner-2.ensures
    (subst (λ (v : Written). OnOk c.put_if.result (Decided c.args.cond c.args.direct a p b q v c.into_inner-2.result)) c.into_inner.ensures c.put_if.ensures)
